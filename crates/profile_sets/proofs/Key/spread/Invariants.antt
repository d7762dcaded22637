-- `spread` meets its contract.
use Prim.Native.Nat.{◌*◌}
use Rattle.ltl.specs.Sets.{on}
use Rattle.profile_sets.specs.Arrays.{Marked}
use Rattle.profile_sets.proofs.Key.spread.Given as goal

abbrev pub invariant-loop-j : goal.invariant-loop-j
invariant-loop-j l = Marked (64 * l.j) (on l.self) l.out
