-- Rows in which the events that cannot happen lead to state 0: their groups over all events are those of the rows over the events that can happen.
use mathlib.Core.Path.{◌≡◌, refl, sym, ap, ap₂, ◌∙◌, subst}
use mathlib.Core.Bool.{Bool, true, false, cond}
use mathlib.Core.List.{List, [], ◌∷◌}
use Prim.Native.Nat.{ℕ, zero, suc, ◌+◌, ◌<◌}
use native.Mathlib.Decide.{ℕ_discrete}
use native.Mathlib.Omega.{arith}
use lib.ListN.{get_or, set}
use lib.Seq.{get_or-set_other}
use borrow.Author.Tests.{eq-eqb}
use Rattle.sequences.specs.Tabulate.{least_below}
use Rattle.sequences.proofs.Loops.{Filled, filled-length}
use Rattle.sequences.proofs.Pointwise.{tabulate-same, all_same, least-same}
use Rattle.meaning.specs.Traces.{Alphabet}
use Rattle.moore.specs.Grouping.{entry, together, same_step, first_groups, next_groups, same_below, rounds, grouping}
use Rattle.group_slots.specs.Groups.{unmasked, RowsBelow}
use Rattle.refinement.specs.Rows.{Column, Cleared}
use Rattle.refinement.proofs.Laws.{filled-take, taken_at}

-- ---- one event
set-zero : (row : List ℕ) (e : ℕ) → get_or (set row e 0) e 0 ≡ 0
set-zero [] e = refl
set-zero (x ∷ row) zero = refl
set-zero (x ∷ row) (suc e) = set-zero row e

pub column-kept : (can : Bool) (n e : ℕ) (rows : List (List ℕ)) → can ≡ true → Column can n e rows rows
column-kept can n e rows q = record { long = refl; here = λ s l. sym (ap (λ (b : Bool). cond b (entry rows s e) 0) q); other = λ s k l m. refl }

pub column-cleared : (can : Bool) (n e : ℕ) (rows rows' : List (List ℕ)) {i : ℕ} → can ≡ false → Filled i (λ t. set (get_or rows t []) e 0) rows rows' → i ≡ n → Column can n e rows rows'
column-cleared can n e rows rows' q h i = record {
  long = filled-length h;
  here = λ s l. ap (λ (row : List ℕ). get_or row e 0) (at s l) ∙ set-zero (get_or rows s []) e ∙ sym (ap (λ (b : Bool). cond b (entry rows s e) 0) q);
  other = λ s k l m. ap (λ (row : List ℕ). get_or row k 0) (at s l) ∙ get_or-set_other (get_or rows s []) e k 0 0 m;
}
  where
    at : (s : ℕ) → s < n → get_or rows' s [] ≡ set (get_or rows s []) e 0
    at s l = taken_at n rows' (λ t. set (get_or rows t []) e 0) (filled-take n h i) s [] l

-- ---- all events
pub cleared-none : {Σ : Alphabet} {n : ℕ} {rows : List (List ℕ)} → Cleared Σ 0 n rows rows
cleared-none = record { below = λ s k l m. absurd (omega arith); above = λ s k l m. refl }

pub cleared_more : {Σ : Alphabet} {e n : ℕ} {rows rows' rows'' : List (List ℕ)} → Cleared Σ e n rows rows' → Column (Σ.possible e) n e rows' rows'' → Cleared Σ (e + 1) n rows rows''
cleared_more {Σ} {e} {n} {rows} {rows'} {rows''} h q = record {
  below = λ s k l m. go s k l m (ℕ_discrete k e);
  above = λ s k l m. q.other s k l (λ z. omega arith) ∙ h.above s k l (omega arith);
}
  where
    go : (s k : ℕ) → s < n → k < e + 1 → Dec (k ≡ e) → entry rows'' s k ≡ cond (Σ.possible k) (entry rows s k) 0
    go s k l m (no z) = q.other s k l z ∙ h.below s k l (omega arith)
    go s k l m (yes z) = subst (λ (k : ℕ). entry rows'' s k ≡ cond (Σ.possible k) (entry rows s k) 0) (sym z) (q.here s l ∙ ap (λ (x : ℕ). cond (Σ.possible e) x 0) (h.above s e l (omega arith)))

-- ---- the groups
module _ {Σ : Alphabet} {n : ℕ} {rows rows' : List (List ℕ)} (h : Cleared Σ Σ.width n rows rows') where
  pub cleared-below : RowsBelow n Σ n rows → RowsBelow n (unmasked Σ.width) n rows'
  cleared-below b = record { row = λ s l. record { to = λ e m. subst (λ (x : ℕ). x < n) (sym (h.below s e l m.0)) (go s e l m.0 (Σ.possible e) refl) } }
    where
      go : (s e : ℕ) → s < n → e < Σ.width → (b : Bool) → Σ.possible e ≡ b → cond b (entry rows s e) 0 < n
      go s e l m true q = (b.row s l).to e (m, rw q tt)
      go s e l m false q = omega arith

  module _ (group : List ℕ) where
    -- where an event cannot happen both go on to state 0
    joined-cleared : (j i e : ℕ) → j < n → i < n → e < Σ.width → together group (entry rows' j e) (entry rows' i e) ≡ cond (Σ.possible e) (together group (entry rows j e) (entry rows i e)) true
    joined-cleared j i e l m k = ap₂ (together group) (h.below j e l k) (h.below i e m k) ∙ go (Σ.possible e)
      where
        go : (b : Bool) → together group (cond b (entry rows j e) 0) (cond b (entry rows i e) 0) ≡ cond b (together group (entry rows j e) (entry rows i e)) true
        go true = refl
        go false = eq-eqb (get_or group 0 0) (get_or group 0 0) refl

    step-cleared : (j i : ℕ) → j < n → i < n → same_step (unmasked Σ.width) rows' group j i ≡ same_step Σ rows group j i
    step-cleared j i l m =
        ap (λ (b : Bool). cond (together group j i) b false)
        (all_same Σ.width (λ e. together group (entry rows' j e) (entry rows' i e)) (λ e. cond (Σ.possible e) (together group (entry rows j e) (entry rows i e)) true) (λ e. joined-cleared j i e l m))

    next-cleared : next_groups (unmasked Σ.width) n rows' group ≡ next_groups Σ n rows group
    unfolding next_groups
    next-cleared = tabulate-same n (λ i. least_below i (λ j. same_step (unmasked Σ.width) rows' group j i)) (λ i. least_below i (λ j. same_step Σ rows group j i))
        (λ i l. least-same i (λ j. same_step (unmasked Σ.width) rows' group j i) (λ j. same_step Σ rows group j i) (λ j m. step-cleared j i (omega arith) l))

  rounds-cleared : (k : ℕ) (group : List ℕ) → rounds k (unmasked Σ.width) n rows' group ≡ rounds k Σ n rows group
  unfolding rounds
  rounds-cleared zero group = refl
  rounds-cleared (suc k) group =
      let next = next_groups Σ n rows group in
      ap (λ (x : List ℕ). cond (same_below n x group) group (rounds k (unmasked Σ.width) n rows' x)) (next-cleared group)
      ∙ ap (λ (x : List ℕ). cond (same_below n next group) group x) (rounds-cleared k next)

  pub grouping-cleared : (classes : List ℕ) → grouping (unmasked Σ.width) n rows' classes ≡ grouping Σ n rows classes
  unfolding grouping
  grouping-cleared classes = rounds-cleared n (first_groups n classes)
