-- What the check of a table answers, from what its parts found.
use mathlib.Core.Path.{◌≡◌, refl, sym, ap, ◌∙◌}
use mathlib.Core.List.{List}
use mathlib.Core.Bool.{Bool, true, false, cond, ◌&&◌}
use Prim.Native.Nat.{ℕ, ◌^◌}
use borrow.Author.Tests.{eq-eqb}
use lib.Dec.{eqb, ltb}
use Rattle.sequences.specs.Tabulate.{every, all_below}
use Rattle.sequences.proofs.Pointwise.{all_same}
use Rattle.meaning.specs.Bytes.{bit}
use Rattle.meaning.specs.Traces.{full_mask}
use Rattle.meaning.specs.TableFiles.{header_tests, row_tests, signals_in, states_in, successor, successor_fits, is_table, checked_of}
use Rattle.meaning.specs.declared.Refusal.TheVariants.{WrongTable}
use Rattle.table_layout.specs.Masks.{MaskIn}
use Rattle.table_layout.proofs.Form.{rows_fit}
use Rattle.events.proofs.Masks.{full-bit}
use Rattle.table_layout.proofs.Masks.{mask-possible}
use Rattle.table_file.specs.Successors.{fits_by}
use Rattle.meaning.specs.declared.Refusal.{Refusal}
use Rattle.meaning.specs.declared.Counts.{Counts}
use Rattle.std.proofs.Common.{Result, Ok, Err}

-- where every event can happen, the successors that fit are the states
pub successors-full : (P m S : ℕ) (to : ℕ → ℕ) → m ≡ full_mask P → all_below (2 ^ P) (λ e. ltb (to e) S) ≡ all_below (2 ^ P) (λ e. fits_by (eqb (bit e m) 1) S (to e))
successors-full P m S to q =
    all_same (2 ^ P) (λ e. ltb (to e) S) (λ e. fits_by (eqb (bit e m) 1) S (to e))
    (λ e l. ap (λ (b : Bool). fits_by b S (to e)) (sym (eq-eqb (bit e m) 1 (ap (bit e) q ∙ full-bit (2 ^ P) e l))))

-- the counts in the first record
abbrev found : List ℕ → Result Counts Refusal
found t = Ok (record { signals = signals_in t; states = states_in t })

module _ (t : List ℕ) where
  pub checked-table : (P S : ℕ) → every (header_tests t) ≡ true → P ≡ signals_in t → S ≡ states_in t → all_below S (λ s. every (row_tests t P S s)) ≡ true
      → Ok (record { signals = P; states = S }) ≡ checked_of t
  unfolding is_table
  checked-table P S h p q r =
      let e : rows_fit t ≡ true = rw (p, q) at r in
      rw (h, e, p, q)

  pub checked-rows : (P S : ℕ) → P ≡ signals_in t → S ≡ states_in t → all_below S (λ s. every (row_tests t P S s)) ≡ false
      → Err WrongTable ≡ checked_of t
  unfolding is_table
  checked-rows P S p q r = let e : rows_fit t ≡ false = rw (p, q) at r in rw e (go (every (header_tests t)))
    where
      go : (b : Bool) → Err WrongTable ≡ cond (b && false) (found t) (Err WrongTable)
      go true = refl
      go false = refl

  pub checked-header : every (header_tests t) ≡ false → Err WrongTable ≡ checked_of t
  unfolding is_table
  checked-header h = rw h

  -- the successors of a state, by a mask of the events that can happen
  pub successors-by : {P m : ℕ} → MaskIn t P m → (S s : ℕ) → all_below (2 ^ P) (λ e. fits_by (eqb (bit e m) 1) S (successor t P s e)) ≡ all_below (2 ^ P) (successor_fits t P S s)
  successors-by {P} {m} h S s =
      all_same (2 ^ P) (λ e. fits_by (eqb (bit e m) 1) S (successor t P s e)) (successor_fits t P S s)
      (λ e l. ap (λ (b : Bool). fits_by b S (successor t P s e)) (mask-possible h e l))
