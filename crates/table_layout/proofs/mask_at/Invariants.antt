-- `table_layout::mask_at` meets its contract.
use mathlib.Core.List.{List}
use mathlib.Core.Bool.{Bool, not}
use Prim.Native.Nat.{ℕ, ◌+◌, ◌*◌}
use lib.Dec.{eqb}
use Rattle.meaning.specs.Bytes.{u16_at}
use Rattle.meaning.specs.TableFiles.{no_successor}
use Rattle.table_layout.specs.Masks.{Marked}
use Rattle.table_layout.proofs.mask_at.Given as goal

abbrev possible_at : List ℕ → ℕ → ℕ → Bool
possible_at t at e = not (eqb (u16_at t (at + 2 * e)) no_successor)

abbrev pub invariant-loop-e : goal.invariant-loop-e
invariant-loop-e l = Marked l.e (possible_at l.t l.at) l.mask
