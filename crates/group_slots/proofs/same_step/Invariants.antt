-- `group_slots::same_step` meets its contract.
use Rattle.sequences.proofs.Loops.{Passed}
use Rattle.moore.specs.Grouping.{entry, together}
use Rattle.group_slots.proofs.same_step.Given as goal

abbrev pub invariant-loop-e : goal.invariant-loop-e
invariant-loop-e l = Passed l.e (λ k. together l.group (entry l.rows l.j k) (entry l.rows l.i k))
