-- `descent::level`, `more` and `tight`, which call one another, meet their contracts. The signs that are left fall, or else the level does.
use Prim.Native.Nat.{◌+◌, ◌-◌, ◌*◌}
use lib.ListN.{length}
use Rattle.descent.proofs.Laws.{Onto, levels_left}
use Rattle.descent.proofs.+level_more_tight.Given as goal

abbrev pub decreases-level : goal.decreases-level
decreases-level l = 16 * (length l.signs.now - l.at) + 2 * l.n + 1

abbrev pub decreases-more : goal.decreases-more
decreases-more l = 16 * (length l.signs.now - l.c.at) + 2 * l.n + 2

abbrev pub decreases-tight : goal.decreases-tight
decreases-tight l = 16 * (length l.signs.now - l.at)

abbrev pub invariant-level-loop-next : goal.invariant-level-loop-next
invariant-level-loop-next l = Onto l.signs l.n l.initial.c l.initial.out l.out l.c l.next

abbrev pub decreases-level-loop-next : goal.decreases-level-loop-next
decreases-level-loop-next l = levels_left l.n l.next
