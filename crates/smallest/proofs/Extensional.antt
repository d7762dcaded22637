-- Grouping and quotient read only the rows and classes of the states that there are: lists that agree there give the same.
use mathlib.Core.Path.{◌≡◌, refl, ap, ap₂, ◌∙◌}
use mathlib.Core.List.{List}
use mathlib.Core.Bool.{Bool, true, false, cond}
use Prim.Native.Nat.{ℕ, zero, suc, ◌<◌}
use native.Mathlib.Omega.{arith}
use lib.ListN.{get_or}
use Rattle.sequences.specs.Tabulate.{tabulate, least_below}
use Rattle.sequences.proofs.Pointwise.{tabulate-same, all_same, least-same}
use Rattle.meaning.specs.Traces.{Alphabet}
use Rattle.moore.specs.Grouping.{entry, together, leads, all_events, same_step, first_groups, next_groups, same_below, rounds, grouping}
use Rattle.moore.specs.Quotient.{leaders, size, number, closed, verdict_byte, verdicts, quotient_rows}
use Rattle.moore.proofs.Counting.{standing}

-- the rows and classes of the first n states are the same, at the events below the width
pub record Agree (Σ : Alphabet) (n : ℕ) (rows rows' : List (List ℕ)) (classes classes' : List ℕ) : Type 0 where
  pub row : (s e : ℕ) → s < n → e < Σ.width → entry rows s e ≡ entry rows' s e
  pub class : (s : ℕ) → s < n → get_or classes s 0 ≡ get_or classes' s 0

module _ {Σ : Alphabet} {n : ℕ} {rows rows' : List (List ℕ)} {classes classes' : List ℕ} (a : Agree Σ n rows rows' classes classes') where
  first-same : first_groups n classes ≡ first_groups n classes'
  unfolding first_groups
  first-same =
      tabulate-same n (λ i. least_below i (λ j. together classes j i)) (λ i. least_below i (λ j. together classes' j i))
      (λ i l. least-same i (λ j. together classes j i) (λ j. together classes' j i) (λ j k. rw (a.class i l, a.class j (omega arith))))

  events-same : (p q : ℕ → Bool) → ((e : ℕ) → e < Σ.width → p e ≡ q e) → all_events Σ p ≡ all_events Σ q
  events-same p q h =
      all_same Σ.width (λ e. cond (Σ.possible e) (p e) true) (λ e. cond (Σ.possible e) (q e) true)
      (λ e l. ap (λ (b : Bool). cond (Σ.possible e) b true) (h e l))

  step_same : (group : List ℕ) (j i : ℕ) → j < n → i < n → same_step Σ rows group j i ≡ same_step Σ rows' group j i
  step_same group j i h l =
      ap (λ (b : Bool). cond (together group j i) b false)
      (events-same (λ e. together group (entry rows j e) (entry rows i e)) (λ e. together group (entry rows' j e) (entry rows' i e))
      (λ e k. ap₂ (λ (x y : ℕ). together group x y) (a.row j e h k) (a.row i e l k)))

  next-same : (group : List ℕ) → next_groups Σ n rows group ≡ next_groups Σ n rows' group
  unfolding next_groups
  next-same group =
      tabulate-same n (λ i. least_below i (λ j. same_step Σ rows group j i)) (λ i. least_below i (λ j. same_step Σ rows' group j i))
      (λ i l. least-same i (λ j. same_step Σ rows group j i) (λ j. same_step Σ rows' group j i) (λ j k. step_same group j i (omega arith) l))

  rounds-same : (k : ℕ) (group : List ℕ) → rounds k Σ n rows group ≡ rounds k Σ n rows' group
  unfolding rounds
  rounds-same zero group = refl
  rounds-same (suc k) group =
      ap₂ (λ (next r : List ℕ). cond (same_below n next group) group r) (next-same group)
      (rounds-same k (next_groups Σ n rows group) ∙ ap (λ (g : List ℕ). rounds k Σ n rows' g) (next-same group))

  pub grouping-same : grouping Σ n rows classes ≡ grouping Σ n rows' classes'
  unfolding grouping
  grouping-same = ap (λ (g : List ℕ). rounds n Σ n rows g) first-same ∙ rounds-same n (first_groups n classes')

  leader-below : (group : List ℕ) (q : ℕ) → q < size n group → get_or (leaders n group) q 0 < n
  unfolding leaders size
  leader-below group q l = (standing n (leads group) q l).below

  closed_same : (group : List ℕ) (s : ℕ) → s < n → closed Σ rows group s ≡ closed Σ rows' group s
  unfolding closed
  closed_same group s l =
      events-same (λ e. together group (entry rows s e) s) (λ e. together group (entry rows' s e) s) (λ e k. ap (λ (x : ℕ). together group x s) (a.row s e l k))

  pub verdicts-same : (group : List ℕ) → verdicts Σ n rows classes group ≡ verdicts Σ n rows' classes' group
  unfolding verdicts
  verdicts-same group =
      tabulate-same (size n group) (λ q. at rows classes (get_or (leaders n group) q 0)) (λ q. at rows' classes' (get_or (leaders n group) q 0))
      (λ q l. let h = leader-below group q l in ap₂ verdict_byte (a.class (get_or (leaders n group) q 0) h) (closed_same group (get_or (leaders n group) q 0) h))
    where
      at : List (List ℕ) → List ℕ → ℕ → ℕ
      at r c s = verdict_byte (get_or c s 0) (closed Σ r group s)

  pub rows_same : (group : List ℕ) → quotient_rows Σ n rows group ≡ quotient_rows Σ n rows' group
  unfolding quotient_rows
  rows_same group =
      tabulate-same (size n group) (λ q. tabulate Σ.width (to rows q)) (λ q. tabulate Σ.width (to rows' q))
      (λ q l. tabulate-same Σ.width (to rows q) (to rows' q)
      (λ e k. ap (λ (x : ℕ). cond (Σ.possible e) (get_or (tabulate n (number group)) x 0) 0) (a.row (get_or (leaders n group) q 0) e (leader-below group q l) k)))
    where
      to : List (List ℕ) → ℕ → ℕ → ℕ
      to r q e = cond (Σ.possible e) (get_or (tabulate n (number group)) (entry r (get_or (leaders n group) q 0) e) 0) 0
