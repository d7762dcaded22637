-- `event_lists::first_bad` meets its contract.
use mathlib.Core.Bool.{not}
use Rattle.sequences.proofs.Loops.{Missed}
use Rattle.event_lists.specs.Masks.{in_mask}
use Rattle.event_lists.proofs.first_bad.Given as goal

abbrev pub invariant-loop-i : goal.invariant-loop-i
invariant-loop-i l = Missed l.i (λ k. not (in_mask l.mask l.events k))
