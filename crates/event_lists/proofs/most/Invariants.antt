-- `event_lists::most` meets its contract.
use Rattle.event_lists.specs.Bounds.{NoneAbove}
use Rattle.event_lists.proofs.most.Given as goal

abbrev pub invariant-loop-event : goal.invariant-loop-event
invariant-loop-event l = NoneAbove l.event-index l.events l.top
