-- `grouping::row_of` meets its contract.
use Rattle.std.proofs.Common.{get_or}
use Rattle.sequences.proofs.Loops.{Filled}
use Rattle.moore.specs.Grouping.{entry}
use Rattle.grouping.proofs.row_of.Given as goal

abbrev pub invariant-loop-e : goal.invariant-loop-e
invariant-loop-e l = Filled l.e (λ k. get_or l.numbers (entry l.successors.rows.now l.s k) 0) l.initial.row l.row
