-- `tefuji::tefuji_open` meets its contract.
use mathlib.Core.Path.{ap, ◌∙◌}
use Rattle.codes.specs.Codes.{opened_code}
use Rattle.tefuji.proofs.tefuji_open.Goals as goal

pub returns : goal.returns
returns c = c.opened_code.ensures ∙ ap (opened_code c.args.number) c.check.ensures
