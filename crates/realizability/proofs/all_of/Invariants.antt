-- `realizability::all_of` meets its contract. The loop's invariant: all temporal nodes passed are in the set.
use Rattle.relations.proofs.Searches.{AllBelow}
use Rattle.ltl.specs.Sets.{on}
use Rattle.realizability.proofs.all_of.Given as goal

abbrev pub invariant-loop-j : goal.invariant-loop-j
invariant-loop-j l = AllBelow l.j (λ j. on l.set j)
