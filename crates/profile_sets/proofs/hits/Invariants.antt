-- `hits` meets its contract. The loop has the bits of the pairs from `pair` on.
use mathlib.Core.Bool.{false}
use Prim.Native.Nat.{◌+◌, ◌*◌, ◌%◌}
use lib.ListN.{get_or}
use Rattle.ltl.specs.Keys.{look}
use Rattle.profile_sets.proofs.Words.{Begun}
use Rattle.profile_sets.proofs.hits.Given as goal

abbrev pub invariant-loop-pair : goal.invariant-loop-pair
invariant-loop-pair l = Begun l.count (λ k. get_or l.held (look l.profiles l.e (l.from + k)) false) (l.count % 2 + 2 * l.pair) l.word
