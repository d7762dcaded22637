-- Rows in which the events that cannot happen lead to state 0: the verdict byte and the row of a group are those that the rows themselves give.
use mathlib.Core.Path.{◌≡◌, refl, ap, ◌∙◌}
use mathlib.Core.Bool.{Bool, true, false, cond}
use mathlib.Core.List.{List}
use Prim.Native.Nat.{ℕ, ◌<◌}
use lib.ListN.{get_or}
use Rattle.sequences.proofs.Pointwise.{tabulate-same, all_same}
use Rattle.meaning.specs.Traces.{Alphabet}
use Rattle.moore.specs.Grouping.{entry, together}
use Rattle.moore.specs.Quotient.{closed, verdict_byte}
use Rattle.group_slots.specs.Groups.{unmasked}
use Rattle.refinement.specs.Rows.{Cleared}
use Rattle.grouping.specs.Machines.{verdict_at, row_at}
use Rattle.grouping.specs.Reduction.{padded}

module _ {Σ : Alphabet} {n : ℕ} {rows rows' : List (List ℕ)} (h : Cleared Σ Σ.width n rows rows') (s : ℕ) (l : s < n) where
  -- whether a group is closed is read at events that can happen
  closed-cleared : (group : List ℕ) → closed Σ rows' group s ≡ closed Σ rows group s
  unfolding closed
  closed-cleared group =
      all_same Σ.width (λ e. cond (Σ.possible e) (together group (entry rows' s e) s) true) (λ e. cond (Σ.possible e) (together group (entry rows s e) s) true)
      (λ e m. ap (λ (x : ℕ). cond (Σ.possible e) (together group x s) true) (h.below s e l m) ∙ go (Σ.possible e) (entry rows s e))
    where
      go : (b : Bool) (x : ℕ) → cond b (together group (cond b x 0) s) true ≡ cond b (together group x s) true
      go true x = refl
      go false x = refl

  pub verdict-cleared : (classes group : List ℕ) → verdict_at Σ rows' classes group s ≡ verdict_at Σ rows classes group s
  unfolding verdict_at
  verdict-cleared classes group = ap (verdict_byte (get_or classes s 0)) (closed-cleared group)

  -- an event that cannot happen has the number of the group of state 0
  pub row-cleared : (numbers : List ℕ) → get_or numbers 0 0 ≡ 0 → row_at (unmasked Σ.width) rows' numbers s ≡ row_at Σ rows numbers s
  unfolding row_at
  row-cleared numbers z =
      ap padded (tabulate-same Σ.width (λ e. get_or numbers (entry rows' s e) 0) (λ e. cond (Σ.possible e) (get_or numbers (entry rows s e) 0) 0)
      (λ e m. ap (λ (x : ℕ). get_or numbers x 0) (h.below s e l m) ∙ go (Σ.possible e) (entry rows s e)))
    where
      go : (b : Bool) (x : ℕ) → get_or numbers (cond b x 0) 0 ≡ cond b (get_or numbers x 0) 0
      go true x = refl
      go false x = z
