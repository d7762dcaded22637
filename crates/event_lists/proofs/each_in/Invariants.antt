-- `event_lists::each_in` meets its contract.
use mathlib.Core.Path.{◌≡◌}
use Rattle.sequences.specs.Tabulate.{all_below}
use Rattle.event_lists.specs.Masks.{in_mask}
use Rattle.event_lists.proofs.each_in.Given as goal

abbrev pub invariant-loop-event : goal.invariant-loop-event
invariant-loop-event l = l.all ≡ all_below l.event-index (in_mask l.mask l.events)
