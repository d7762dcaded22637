-- `grouping::numbers` meets its contract.
use Rattle.sequences.proofs.Loops.{Filled}
use Rattle.moore.specs.Quotient.{number}
use Rattle.grouping.proofs.numbers.Given as goal

abbrev pub invariant-loop-i : goal.invariant-loop-i
invariant-loop-i l = Filled l.i (number l.grouped.group.now) l.initial.out l.out
