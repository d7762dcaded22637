-- `tefuji::tefuji_step` meets its contract.
use mathlib.Core.Path.{ap, ◌∙◌}
use mathlib.Core.List.{[], ◌∷◌}
use Rattle.codes.specs.Codes.{arrived_code}
use Rattle.tefuji.proofs.Steps.{run_is}
use Rattle.tefuji.proofs.tefuji_step.Goals as goal

pub returns : goal.returns
returns c = c.arrived_code.ensures
    ∙ ap arrived_code (run_is c.args.table.now c.args.opened c.args.state (c.args.event ∷ []) c.opening_in-o.ensures c.state_in-s.ensures c.step_from.ensures)
