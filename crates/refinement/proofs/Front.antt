-- Of a list of groups a round reads those of the n states only: what stands past them does not matter.
use mathlib.Core.Path.{◌≡◌, refl, sym, ap, ap₂, ◌∙◌}
use mathlib.Core.Bool.{Bool, true, false, cond}
use mathlib.Core.List.{List}
use Prim.Native.Nat.{ℕ, zero, suc, ◌+◌, ◌<◌}
use native.Mathlib.Numerals.{add-one}
use native.Mathlib.Nat.{not-suc-le-zero}
use native.Mathlib.Omega.{arith}
use lib.Dec.{eqb}
use lib.ListN.{get_or, take}
use lib.Seq.{get_or-take}
use Rattle.sequences.proofs.Pointwise.{tabulate-same, all_same, least-same}
use Rattle.meaning.specs.Traces.{Alphabet, Event}
use Rattle.sequences.specs.Tabulate.{least_below}
use Rattle.moore.specs.Grouping.{entry, together, all_events, same_step, next_groups, same_below, rounds}
use Rattle.group_slots.specs.Groups.{RowsBelow}

-- tests that agree at the events that can happen
pub events-same : (Σ : Alphabet) (p q : ℕ → Bool) → ((e : ℕ) → Event Σ e → p e ≡ q e) → all_events Σ p ≡ all_events Σ q
events-same Σ p q h = all_same Σ.width (λ e. cond (Σ.possible e) (p e) true) (λ e. cond (Σ.possible e) (q e) true) (λ e l. go e l (Σ.possible e) refl)
  where
    go : (e : ℕ) → e < Σ.width → (b : Bool) → Σ.possible e ≡ b → cond b (p e) true ≡ cond b (q e) true
    go e l true r = h e (l, rw r tt)
    go e l false r = refl

-- ---- the front of a list of groups
module _ (n : ℕ) (group : List ℕ) where
  pub front_at : (i : ℕ) → i < n → get_or (take n group) i 0 ≡ get_or group i 0
  front_at i l = get_or-take n group i 0 l

  pub together-front : (i j : ℕ) → i < n → j < n → together (take n group) i j ≡ together group i j
  together-front i j l m = ap₂ eqb (front_at i l) (front_at j m)

  module _ (Σ : Alphabet) (rows : List (List ℕ)) (h : RowsBelow n Σ n rows) where
    step-front : (j i : ℕ) → j < n → i < n → same_step Σ rows (take n group) j i ≡ same_step Σ rows group j i
    step-front j i m l =
        ap₂ (λ (a b : Bool). cond a b false) (together-front j i m l)
        (events-same Σ (λ e. together (take n group) (entry rows j e) (entry rows i e)) (λ e. together group (entry rows j e) (entry rows i e)) (λ e k. together-front (entry rows j e) (entry rows i e) ((h.row j m).to e k) ((h.row i l).to e k)))

    next-front : next_groups Σ n rows (take n group) ≡ next_groups Σ n rows group
    unfolding next_groups
    next-front = tabulate-same n (λ i. least_below i (λ j. same_step Σ rows (take n group) j i)) (λ i. least_below i (λ j. same_step Σ rows group j i))
        (λ i l. least-same i (λ j. same_step Σ rows (take n group) j i) (λ j. same_step Σ rows group j i) (λ j m. step-front j i (omega arith) l))

same-front : (n : ℕ) (a b : List ℕ) → same_below n (take n a) (take n b) ≡ same_below n a b
same-front n a b = all_same n (λ i. eqb (get_or (take n a) i 0) (get_or (take n b) i 0)) (λ i. eqb (get_or a i 0) (get_or b i 0)) (λ i l. ap₂ eqb (front_at n a i l) (front_at n b i l))

-- ---- one turn of the rounds
module _ (n : ℕ) (Σ : Alphabet) (rows : List (List ℕ)) (h : RowsBelow n Σ n rows) (group next : List ℕ) (e : take n next ≡ next_groups Σ n rows group) where
  turn : (k : ℕ) → rounds (suc k) Σ n rows (take n group) ≡ cond (same_below n next group) (take n group) (rounds k Σ n rows (take n next))
  unfolding rounds
  turn k =
      ap (λ (x : List ℕ). cond (same_below n x (take n group)) (take n group) (rounds k Σ n rows x)) (next-front n group Σ rows h ∙ sym e)
      ∙ ap (λ (b : Bool). cond b (take n group) (rounds k Σ n rows (take n next))) (same-front n next group)

  pub rounds-stop : (k : ℕ) → 0 < k → same_below n next group ≡ true → rounds k Σ n rows (take n group) ≡ take n group
  rounds-stop zero l q = absurd (not-suc-le-zero l)
  rounds-stop (suc k) l q = turn k ∙ rw q

  pub rounds-step : (k j : ℕ) → k ≡ j + 1 → same_below n next group ≡ false → rounds k Σ n rows (take n group) ≡ rounds j Σ n rows (take n next)
  rounds-step k j l q = rw (l, add-one j) (turn j ∙ rw q)
