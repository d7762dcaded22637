-- `grouping::ranks` meets its contract.
use Rattle.std.proofs.Common.{◌≡◌}
use Rattle.sequences.proofs.Loops.{Filled}
use Rattle.moore.specs.Counting.{count_below}
use Rattle.moore.specs.Grouping.{leads}
use Rattle.grouping.proofs.ranks.Given as goal

abbrev pub invariant-loop-i : goal.invariant-loop-i
invariant-loop-i l =
    let lead = leads l.grouped.group.now in record {
      counted : l.below ≡ count_below l.i lead;
      filled : Filled l.i (λ k. count_below k lead) l.initial.rank l.rank;
    }
