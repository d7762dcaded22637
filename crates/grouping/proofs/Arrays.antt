-- What a caller reads in the arrays that a reduction leaves: each verdict byte and each successor, and that the arrays keep their lengths.
use mathlib.Core.Path.{◌≡◌, sym, ap, ◌∙◌, subst}
use mathlib.Core.List.{List, [], ◌++◌, map}
use mathlib.Core.Bool.{cond}
use Prim.Native.Nat.{ℕ, ◌≤◌, ◌<◌}
use native.Mathlib.Omega.{arith}
use lib.ListN.{length, get_or, drop, replicate, length-append, length-drop, get_or-append}
use Rattle.sequences.specs.Tabulate.{tabulate}
use Rattle.sequences.proofs.Loops.{length-tab, get_d-tab}
use Rattle.meaning.specs.Traces.{Alphabet}
use Rattle.moore.specs.Grouping.{entry, grouping}
use Rattle.moore.specs.Quotient.{leaders, size, number, closed, verdict_byte, verdicts, quotient_rows}
use Rattle.grouping.specs.Reduction.{padded, Reduction}
use Rattle.grouping.proofs.Front.{map-tabulate}

module _ {A : Type 0} (f d s : List A) (n : ℕ) (e : s ≡ f ++ drop n d) (l : length f ≡ n) where
  front-getD : (i : ℕ) (z : A) → i < n → get_or s i z ≡ get_or f i z
  front-getD i z h = ap (λ (t : List A). get_or t i z) e ∙ get_or-append f (drop n d) z i (omega (arith, l))

  front_length : (k : ℕ) → n ≤ k → length d ≡ k → length s ≡ k
  front_length k h q = ap length e ∙ length-append f (drop n d) ∙ omega (arith, l, length-drop n d)

module _ (Σ : Alphabet) (n : ℕ) (rows : List (List ℕ)) (classes group : List ℕ) where
  verdicts-length : length (verdicts Σ n rows classes group) ≡ size n group
  unfolding verdicts
  verdicts-length = length-tab (size n group) (λ q. verdict_byte (get_or classes (get_or (leaders n group) q 0) 0) (closed Σ rows group (get_or (leaders n group) q 0)))

  row : ℕ → List ℕ
  row q = tabulate Σ.width (λ e. cond (Σ.possible e) (get_or (tabulate n (number group)) (entry rows (get_or (leaders n group) q 0) e) 0) 0)

  padded-rows : map padded (quotient_rows Σ n rows group) ≡ tabulate (size n group) (λ q. padded (row q))
  unfolding quotient_rows row
  padded-rows = map-tabulate padded (size n group) row

  padded-at : (q e : ℕ) → q < size n group → e < Σ.width → entry (map padded (quotient_rows Σ n rows group)) q e ≡ entry (quotient_rows Σ n rows group) q e
  unfolding quotient_rows row
  padded-at q e l h =
      ap (λ (t : List (List ℕ)). get_or (get_or t q []) e 0) padded-rows
      ∙ ap (λ (t : List ℕ). get_or t e 0) (get_d-tab (size n group) (λ q. padded (row q)) q [] l)
      ∙ get_or-append (row q) (drop (length (row q)) (replicate 16 0)) 0 e (subst (λ (k : ℕ). e < k) (sym (length-tab Σ.width (λ e. cond (Σ.possible e) (get_or (tabulate n (number group)) (entry rows (get_or (leaders n group) q 0) e) 0) 0))) h)
      ∙ ap (λ (t : List ℕ). get_or t e 0) (sym (get_d-tab (size n group) row q [] l))

module _ {Σ : Alphabet} {n : ℕ} {rows : List (List ℕ)} {classes bytes : List ℕ} {to : List (List ℕ)} {r : ℕ} {bytes' : List ℕ} {to' : List (List ℕ)}
    (h : Reduction Σ n rows classes bytes to r bytes' to') where
  some-rows : length (map padded (quotient_rows Σ n rows (grouping Σ n rows classes))) ≡ r
  some-rows =
      ap length (padded-rows Σ n rows classes (grouping Σ n rows classes))
      ∙ length-tab (size n (grouping Σ n rows classes)) (λ q. padded (row Σ n rows classes (grouping Σ n rows classes) q)) ∙ sym h.count

  some_bytes : length (verdicts Σ n rows classes (grouping Σ n rows classes)) ≡ r
  some_bytes = verdicts-length Σ n rows classes (grouping Σ n rows classes) ∙ sym h.count

  pub verdict-at : (q : ℕ) → q < r → get_or bytes' q 0 ≡ get_or (verdicts Σ n rows classes (grouping Σ n rows classes)) q 0
  verdict-at q l = front-getD (verdicts Σ n rows classes (grouping Σ n rows classes)) bytes bytes' r h.verdicts_are some_bytes q 0 l

  pub successor-at : (q e : ℕ) → q < r → e < Σ.width → entry to' q e ≡ entry (quotient_rows Σ n rows (grouping Σ n rows classes)) q e
  successor-at q e l m =
      ap (λ (t : List ℕ). get_or t e 0) (front-getD (map padded (quotient_rows Σ n rows (grouping Σ n rows classes))) to to' r h.rows_are some-rows q [] l)
      ∙ padded-at Σ n rows classes (grouping Σ n rows classes) q e (subst (λ (k : ℕ). q < k) h.count l) m

  pub verdicts-kept : (k : ℕ) → n ≤ k → length bytes ≡ k → length bytes' ≡ k
  verdicts-kept k l = front_length (verdicts Σ n rows classes (grouping Σ n rows classes)) bytes bytes' r h.verdicts_are some_bytes k (omega (arith, h.fewer))

  pub rows-kept : (k : ℕ) → n ≤ k → length to ≡ k → length to' ≡ k
  rows-kept k l = front_length (map padded (quotient_rows Σ n rows (grouping Σ n rows classes))) to to' r h.rows_are some-rows k (omega (arith, h.fewer))
