-- `word_of` meets its contract. The loop has the bits from i on.
use mathlib.Core.Bool.{false}
use Prim.Native.Nat.{◌+◌, ◌*◌}
use lib.ListN.{get_or}
use Rattle.profile_sets.proofs.Words.{Begun}
use Rattle.profile_sets.proofs.word_of.Given as goal

abbrev pub invariant-loop-i : goal.invariant-loop-i
invariant-loop-i l = Begun 64 (λ k. get_or l.bits (64 * l.j + k) false) l.i l.word
