-- `refinement::first_groups` meets its contract.
use Rattle.sequences.specs.Tabulate.{least_below}
use Rattle.sequences.proofs.Loops.{Filled}
use Rattle.moore.specs.Grouping.{together}
use Rattle.refinement.proofs.first_groups.Given as goal

abbrev pub invariant-loop-i : goal.invariant-loop-i
invariant-loop-i l = Filled l.i (λ k. least_below k (λ j. together l.classes j k)) l.initial.group l.group
