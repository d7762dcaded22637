-- On any trace the promise of each temporal node is kept again and again: from each position on there is one at which,
-- whatever the right label behind it, the edge is fair to the node.
use mathlib.Core.Path.{◌≡◌}
use mathlib.Core.Logic.{◌⊎◌, inl, inr}
use mathlib.Core.Bool.{Bool, not}
use mathlib.Core.List.{List, [], ◌∷◌, ◌++◌}
use Prim.Native.Nat.{ℕ, suc, ◌+◌, ◌≤◌, ◌<◌}
use native.Mathlib.Nat.{le_refl}
use native.Mathlib.Decide.{ℕ_discrete}
use native.Mathlib.Omega.{arith}
use lib.Dec.{T}
use Rattle.meaning.specs.Formulas.{Formula, Until, Sat}
use Rattle.ltl.specs.Sets.{on}
use Rattle.ltl.specs.Nodes.{Temporal, next, until, eventually, always, Split, plain, temporal, temporals}
use Rattle.ltl.specs.Nodes.{plain_formula, temporal_formula, obligation}
use Rattle.ltl.specs.Valuation.{temporal_value, fair_bit, Valued, value_all, valued}
use Rattle.ltl.proofs.Truth.{◌⇔◌, t_not, t-or}
use Rattle.ltl.proofs.Deciding.{decided}
use Rattle.ltl.proofs.Unfolding.{Later}
use Rattle.ltl.proofs.Valuation.{Known, known-none, known-plain, known-temporal, plain-right, fairs-here}
use Rattle.ltl.proofs.Labels.{temporal-right, LabelRight}
use Rattle.ltl.proofs.Fairness.{later-map}

-- from i on the promise of an until is kept, or is none
kept-or-none : {A B : ℕ → Type 0} (i : ℕ) → ¬ ¬ Later (λ k. (¬ Until A B k) ⊎ B k) i
kept-or-none {A} {B} i g = decided (Until A B i) go
  where
    go : Dec (Until A B i) → ⊥
    go (yes u) = g (record { time = u.time; after = u.after; there = inr u.there })
    go (no n) = g (record { time = i; after = le_refl i; there = inl n })

module _ (w : ℕ → ℕ) where
  -- at k the promise of the node t is kept, or is none
  record Kept (fs : List Formula) (t : Temporal) (k : ℕ) : Type 0 where
    fair : {j : ℕ} {s : Valued} → Known w k fs j s → (x : Bool) → Sat w (obligation fs t) (suc k) ⇔ x
        → T (fair_bit s.values x t)

  kept : (fs : List Formula) (t : Temporal) (i : ℕ) → ¬ ¬ Later (Kept fs t) i
  kept fs (next a) i g = g (record { time = i; after = le_refl i; there = record { fair = λ k x h. tt } })
  kept fs (until a b) i g = kept-or-none i (λ l. g (later-map (λ n p. record {
    fair = λ {s = s} k x h.
        let v = temporal_value s.values x (until a b) in
        (t-or (not v) (on s.values b) (t_not v (temporal-right k (until a b) x h)) (k.right b)).0 p;
  }) l))
  kept fs (eventually a) i g = kept-or-none i (λ l. g (later-map (λ n p. record {
    fair = λ {s = s} k x h.
        let v = temporal_value s.values x (eventually a) in
        (t-or (not v) (on s.values a) (t_not v (temporal-right k (eventually a) x h)) (k.right a)).0 p;
  }) l))
  kept fs (always a) i g = kept-or-none i (λ l. g (later-map (λ n p. record {
    fair = λ {s = s} k x h.
        let v = temporal_value s.values x (always a) in
        (t-or v (not (on s.values a)) (temporal-right k (always a) x h) (t_not (on s.values a) (k.right a))).0 p;
  }) l))

  -- the edge at k is fair to the temporal node q, those of ns being counted from j on
  record FairFrom (fs : List Formula) (j : ℕ) (ns : List Split) (q k : ℕ) : Type 0 where
    fair : {s : Valued} → Known w k fs j s → (y : ℕ) → LabelRight w (suc k) fs j y ns
        → T (on (value_all (w k) y s ns).fairs q)

  fair-from : (fs : List Formula) (j : ℕ) (ns : List Split) (q : ℕ) → j ≤ q → q < j + temporals ns
      → (i : ℕ) → ¬ ¬ Later (FairFrom fs j ns q) i
  fair-from fs j [] q h l i g = omega arith
  fair-from fs j (plain p ∷ ns) q h l i g =
      fair-from (fs ++ (plain_formula fs p ∷ [])) j ns q h l i
      (λ f. g (later-map (λ n r. record { fair = λ k y o. r.fair (known-plain k y p (plain-right k p)) y o }) f))
  fair-from fs j (temporal t ∷ ns) q h l i g =
      go (λ e. fair-from (fs ++ (temporal_formula fs t ∷ [])) (suc j) ns q e (omega arith) i) (ℕ_discrete q j)
    where
      go : (j < q → ¬ ¬ Later (FairFrom (fs ++ (temporal_formula fs t ∷ [])) (suc j) ns q) i) → Dec (q ≡ j) → ⊥
      go f (yes e) = kept fs t i (λ f. g (later-map (λ n r. record {
        fair = λ k y o. rw (e, fairs-here k (w n) y t ns) (r.fair k (on y j) o.0);
      }) f))
      go f (no e) = f (omega arith) (λ f. g (later-map (λ n r. record {
        fair = λ k y o. r.fair (known-temporal k y t (temporal-right k t (on y j) o.0)) y o.1;
      }) f))

  -- the edge at k is fair to the temporal node q, whatever the right label y behind it
  abbrev pub FairAt : List Split → ℕ → ℕ → Type 0
  FairAt ns q k = (y : ℕ) → LabelRight w (suc k) [] 0 y ns → T (on (valued (w k) y ns).fairs q)

  pub fair-again : (ns : List Split) (q : ℕ) → q < temporals ns → (i : ℕ) → ¬ ¬ Later (FairAt ns q) i
  fair-again ns q h i g =
      fair-from [] 0 ns q (omega arith) (omega arith) i (λ f. g (later-map (λ n r. r.fair (known-none w n)) f))
