-- `realizability::component` meets its contract. The loop's invariant: no label passed is in the component of c.
use Rattle.sequences.proofs.Loops.{Missed}
use Rattle.relations.specs.Relations.{entry}
use Rattle.realizability.specs.Core.{both_ways}
use Rattle.realizability.proofs.component.Given as goal

abbrev pub invariant-loop-x : goal.invariant-loop-x
invariant-loop-x l = Missed l.x (λ x. both_ways (entry l.relation.rows) x l.c)
