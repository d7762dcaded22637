-- `openings::step_all_from` meets its contract.
use Rattle.std.proofs.Common.{◌≡◌, drop}
use Rattle.openings.specs.Steps.{stepped_in}
use Rattle.openings.proofs.step_all_from.Given as goal

abbrev pub invariant-loop-event : goal.invariant-loop-event
invariant-loop-event l = stepped_in l.opening l.t l.signals l.states l.s (drop l.event-index l.events) ≡ stepped_in l.opening l.t l.signals l.states l.initial.s l.events
