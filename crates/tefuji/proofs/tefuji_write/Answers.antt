-- `tefuji::tefuji_write` meets its contract.
use mathlib.Core.Path.{ap, ◌∙◌}
use Rattle.codes.specs.Codes.{length_code}
use Rattle.tefuji.proofs.tefuji_write.Goals as goal

pub returns : goal.returns
returns c = record { answer = c.length_code.ensures ∙ ap length_code c.write.ensures.answer; output = c.write.ensures.output; reading = record { answer = c.write.result; code = c.length_code.ensures; writes = c.write.ensures.reading; right = c.write.ensures.right } }
