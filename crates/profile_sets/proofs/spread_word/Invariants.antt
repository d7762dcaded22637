-- `spread_word` meets its contract.
use mathlib.Core.Path.{◌≡◌}
use Prim.Native.Nat.{◌/◌, ◌^◌}
use Rattle.profile_sets.specs.Arrays.{SpreadFrom}
use Rattle.profile_sets.proofs.spread_word.Given as goal

abbrev pub invariant-loop-i : goal.invariant-loop-i
invariant-loop-i l = (l.rest ≡ l.word / 2 ^ l.i) × SpreadFrom l.i l.word l.from l.initial.out l.out
