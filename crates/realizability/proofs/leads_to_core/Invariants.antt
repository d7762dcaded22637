-- `realizability::leads_to_core` meets its contract. The loop's invariant: none of the labels passed is reached in the core.
use mathlib.Core.Bool.{false}
use lib.ListN.{get_or}
use Rattle.relations.proofs.Searches.{NoneBelow}
use Rattle.relations.specs.Relations.{entry}
use Rattle.realizability.specs.Core.{to_core_by}
use Rattle.realizability.proofs.leads_to_core.Given as goal

abbrev pub invariant-loop-c : goal.invariant-loop-c
invariant-loop-c l = NoneBelow l.c (to_core_by (entry l.relation.rows) (λ i. get_or l.core i false) l.x)
