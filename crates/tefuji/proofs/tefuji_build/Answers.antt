-- `tefuji::tefuji_build` meets its contract.
use mathlib.Core.Path.{ap, ◌∙◌}
use Rattle.codes.specs.Codes.{length_code}
use Rattle.tefuji.proofs.Demands.{right_by}
use Rattle.tefuji.proofs.tefuji_build.Goals as goal

pub returns : goal.returns
returns c = record { answer = c.length_code.ensures ∙ ap length_code c.build.ensures.answer; output = c.build.ensures.output; demands = right_by c.args.rule.now c.args.table.now c.build.ensures.answer c.build.ensures.output c.build.ensures.demands }
