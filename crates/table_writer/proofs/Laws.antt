-- The pieces of a table's bytes, stored one after the other.
use mathlib.Core.Path.{◌≡◌, refl, sym, ap, ap₂, ◌∙◌, subst}
use mathlib.Core.List.{List, [], ◌∷◌, ◌++◌}
use Prim.Native.Nat.{ℕ, suc, ◌+◌, ◌*◌, ◌^◌, ◌≤◌, ◌<◌}
use native.Mathlib.Nat.{mul-le-mul_right, suc-mul, mul_comm}
use native.Mathlib.Numerals.{add-one}
use native.Mathlib.Omega.{arith}
use lib.ListN.{length, get_or, set, drop}
use lib.Seq.{sets}
use Rattle.sequences.proofs.Joined.{joined_length}
use Rattle.sequences.proofs.Stores.{Stored, stored_more, stored-whole}
use Rattle.meaning.specs.Traces.{Alphabet}
use Rattle.meaning.specs.TableFiles.{row_length, row_at, table_length}
use Rattle.wire.specs.Wire.{u16_bytes}
use Rattle.table_bytes.specs.Written.{header_bytes, written_successor, successor_bytes, row_bytes, rows_bytes, table_bytes}

module _ (Σ : Alphabet) where
  successors-length : (n : ℕ) (row : List ℕ) → length (successor_bytes Σ n row) ≡ 2 * n
  successors-length n row = joined_length 2 (λ e. u16_bytes (written_successor Σ row e)) (λ i. refl) n ∙ mul_comm n 2

  pub successors-more : {d s : List ℕ} {i : ℕ} (row : List ℕ) (e : ℕ) (r : List ℕ) (x : ℕ) → Stored d i (successor_bytes Σ e row) s → x ≡ written_successor Σ row e
      → r ≡ sets s (i + 2 * e) (u16_bytes x) → Stored d i (successor_bytes Σ (e + 1) row) r
  successors-more {d} {s} {i} row e r x h w q =
      subst (λ (n : ℕ). Stored d i (successor_bytes Σ n row) r) (sym (add-one e))
      (stored_more (i + 2 * e) (u16_bytes (written_successor Σ row e)) r h (ap (λ (n : ℕ). i + n) (sym (successors-length e row))) (q ∙ ap (λ (n : ℕ). sets s (i + 2 * e) (u16_bytes n)) w))

  pub row-stored : (d s₁ s₂ s₃ row : List ℕ) (i P v n x : ℕ) → n ≡ 2 ^ P → x ≡ 3 + 2 * n → s₁ ≡ sets d i (u16_bytes x) → s₂ ≡ sets s₁ (i + 2) (u16_bytes 513)
      → s₃ ≡ sets (set s₂ (i + 4) v) (i + 5) (successor_bytes Σ n row) → s₃ ≡ sets d i (row_bytes Σ P v row)
  row-stored d s₁ s₂ s₃ row i P v n x e f p q r =
      let h₁ : Stored d i (u16_bytes x) s₁ = record { is = p } in
      let h₂ = stored_more (i + 2) (u16_bytes 513) s₂ h₁ refl q in
      let h₃ = stored_more (i + 4) (v ∷ []) (set s₂ (i + 4) v) h₂ refl refl in
      let h₄ = stored_more (i + 5) (successor_bytes Σ n row) s₃ h₃ refl r in
      h₄.is ∙ ap₂ (λ (y m : ℕ). sets d i (u16_bytes y ++ (1 ∷ 2 ∷ v ∷ successor_bytes Σ m row))) (f ∙ ap (λ (m : ℕ). 3 + 2 * m) e) e

  row-length : (P v : ℕ) (row : List ℕ) → length (row_bytes Σ P v row) ≡ row_length P
  row-length P v row = let h = successors-length (2 ^ P) row in omega arith

module _ (Σ : Alphabet) (P : ℕ) (verdicts : List ℕ) (rows : List (List ℕ)) where
  rows-length : (S : ℕ) → length (rows_bytes Σ P S verdicts rows) ≡ S * row_length P
  rows-length S = joined_length (row_length P) (λ s. row_bytes Σ P (get_or verdicts s 0) (get_or rows s [])) (λ s. row-length Σ P (get_or verdicts s 0) (get_or rows s [])) S

  pub rows_more : {d s : List ℕ} (k : ℕ) (r : List ℕ) (i : ℕ) → Stored d 7 (rows_bytes Σ P k verdicts rows) s → i ≡ row_at P k → r ≡ sets s i (row_bytes Σ P (get_or verdicts k 0) (get_or rows k []))
      → Stored d 7 (rows_bytes Σ P (k + 1) verdicts rows) r
  rows_more {d} {s} k r i h e q =
      subst (λ (n : ℕ). Stored d 7 (rows_bytes Σ P n verdicts rows) r) (sym (add-one k))
      (stored_more i (row_bytes Σ P (get_or verdicts k 0) (get_or rows k [])) r h (e ∙ ap (λ (n : ℕ). 7 + n) (sym (rows-length k))) q)

  pub table-stored : (S : ℕ) (d s₁ s₂ : List ℕ) → s₁ ≡ sets d 0 (header_bytes P S) → s₂ ≡ sets s₁ 7 (rows_bytes Σ P S verdicts rows) → table_length P S ≤ length d
      → s₂ ≡ table_bytes Σ P S verdicts rows ++ drop (table_length P S) d
  unfolding table_bytes
  table-stored S d s₁ s₂ p q l =
      let h₁ : Stored d 0 (header_bytes P S) s₁ = record { is = p } in
      let h₂ = stored_more 7 (rows_bytes Σ P S verdicts rows) s₂ h₁ refl q in
      stored-whole (table_length P S) h₂ (let n = rows-length S in omega arith) l

-- the record of a state below S ends within the table
pub row_within : (P S s : ℕ) → s < S → row_at P s + row_length P ≤ table_length P S
row_within P S s h = let m : suc s * row_length P ≤ S * row_length P = mul-le-mul_right (row_length P) h in omega (arith, suc-mul s (row_length P))
