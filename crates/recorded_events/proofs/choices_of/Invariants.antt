-- `recorded_events::choices_of` meets its contract.
use Rattle.recorded_events.proofs.Laws.{Chosen}
use Rattle.recorded_events.proofs.choices_of.Given as goal

abbrev pub invariant-loop-event : goal.invariant-loop-event
invariant-loop-event l = Chosen l.signals l.mask (record { known = l.known; values = l.values }) l.event l.events l.count
