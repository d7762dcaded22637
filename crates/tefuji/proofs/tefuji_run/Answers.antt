-- `tefuji::tefuji_run` meets its contract.
use mathlib.Core.Path.{ap, ◌∙◌}
use Rattle.codes.specs.Codes.{arrived_code, count_after}
use Rattle.tefuji.proofs.Steps.{run_is}
use Rattle.tefuji.proofs.tefuji_run.Goals as goal
use Rattle.std.proofs.Common.{Result}
use Rattle.meaning.specs.declared.Arrival.{Arrival}
use Rattle.meaning.specs.declared.State.{State}
use Rattle.meaning.specs.declared.Refusal.{Refusal}

pub returns : goal.returns
returns c = let arrived = run_is c.args.table.now c.args.opened c.args.state c.args.events.now c.opening_in-o.ensures c.state_in-from.ensures c.run_from-arrived.ensures in record { value = c.arrived_code.ensures ∙ ap arrived_code arrived; count_after = c.count_after.ensures ∙ ap (λ (r : Result (Arrival State) Refusal). count_after r c.args.count.now) arrived }
