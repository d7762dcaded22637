-- `grouping::list_leaders` meets its contract.
use Rattle.std.proofs.Common.{◌≡◌}
use Rattle.moore.specs.Counting.{count_below}
use Rattle.moore.specs.Grouping.{leads}
use Rattle.grouping.proofs.Laws.{Listed}
use Rattle.grouping.proofs.list_leaders.Given as goal

abbrev pub invariant-loop-i : goal.invariant-loop-i
invariant-loop-i l =
    let lead = leads l.grouped.group.now in record {
      counted : l.count ≡ count_below l.i lead;
      listed : Listed l.i lead l.least;
    }
