-- Along an infinite run of labels on which every temporal node is fair again and again, values are truth.
use mathlib.Core.Path.{◌≡◌, sym, ap, ◌∙◌, subst}
use mathlib.Core.Logic.{◌⊎◌, ◌↔◌, inl, inr}
use mathlib.Core.Bool.{Bool, true, false, not, ◌&&◌, ◌||◌}
use mathlib.Core.List.{List, [], ◌∷◌, ◌++◌}
use Prim.Native.Nat.{ℕ, suc, ◌+◌, ◌≤◌, ◌<◌}
use native.Mathlib.Nat.{le_refl}
use native.Mathlib.Omega.{arith}
use lib.Dec.{T}
use Rattle.meaning.specs.Formulas.{Formula, Sat}
use Rattle.ltl.specs.Sets.{on}
use Rattle.ltl.specs.Nodes.{Plain, Temporal, next, until, eventually, always, Split, plain, temporal, temporals, plain_formula, temporal_formula}
use Rattle.ltl.specs.Valuation.{temporal_value, label_bit, fair_bit, Valued, value, value_all, valued}
use Rattle.ltl.proofs.Truth.{◌⇔◌, iff-trans, iff-sym, t_same, t-and, t-or}
use Rattle.ltl.proofs.Unfolding.{until-fair, Later}
use Rattle.ltl.proofs.Valuation.{Known, known-none, known-plain, known-temporal, plain-right, label-here, fairs-here}
use Rattle.ltl.proofs.Labels.{obligation-right, LabelRight}

-- ---- what fairness says of one node: v is its value, a and b its operands'

unfair : {B : Type 0} (v b : Bool) → B ⇔ b → T (not v || b) → (¬ T v) ⊎ B
unfair true b f t = inr (f.1 t)
unfair false b f t = inl (λ x. x)

unfair-always : {A : Type 0} (v a : Bool) → A ⇔ a → T (v || not a) → (¬ ¬ T v) ⊎ ¬ A
unfair-always true a f t = inl (λ n. n tt)
unfair-always false true f t = absurd t
unfair-always false false f t = inr f.0

nand : {A : Type 0} (a x : Bool) → A ⇔ a → (¬ T (a && x)) ↔ ((¬ A) ⊎ (Unit {0} × ¬ T x))
nand true true f = (λ n. absurd (n tt), λ p t. elim p [ inl y ↦ y (f.1 tt) | inr y ↦ y.1 tt ])
nand true false f = (λ n. inr (tt, λ t. t), λ p t. t)
nand false x f = (λ n. inl f.0, λ p t. t)

double : {A : Type 0} (v : Bool) → ((¬ T v) ↔ A) → (¬ A) ⇔ v
double true f = (λ n. tt, λ t a. f.1 a tt)
double false f = (λ n. n (f.0 (λ t. t)), λ t. absurd t)

pub later-map : {P Q : ℕ → Type 0} {i : ℕ} → ((k : ℕ) → P k → Q k) → Later P i → Later Q i
later-map f l = record { time = l.time; after = l.after; there = f l.time l.there }

module _ {w : ℕ → ℕ} {fs : List Formula} {j : ℕ} {s : ℕ → Valued} (k : (i : ℕ) → Known w i fs j (s i)) (x : ℕ → Bool) where
  temporal-fair : (t : Temporal) → ((i : ℕ) → label_bit (s i).values (x (suc i)) t ≡ x i) → ((i : ℕ) → Later (λ n. T (fair_bit (s n).values (x (suc n)) t)) i)
      → (i : ℕ) → Sat w (temporal_formula fs t) i ⇔ temporal_value (s i).values (x (suc i)) t
  temporal-fair (next a) c fair i = rw (← (c (suc i))) ((k (suc i)).right a)
  temporal-fair (until a b) c fair i =
      iff-sym (until-fair
      (λ n. iff-sym (t-or (on (s n).values b) (on (s n).values a && x (suc n)) ((k n).right b)
      (t-and (on (s n).values a) (x (suc n)) ((k n).right a) (t_same _ _ (c (suc n))))))
      (λ n. later-map (λ q. unfair (temporal_value (s q).values (x (suc q)) (until a b)) (on (s q).values b) ((k q).right b)) (fair n)) i)
  temporal-fair (eventually a) c fair i =
      iff-sym (until-fair
      (λ n. iff-sym (t-or (on (s n).values a) (x (suc n)) ((k n).right a) (iff-trans (λ p. p.1, λ t. (tt, t)) (t_same _ _ (c (suc n))))))
      (λ n. later-map (λ q. unfair (temporal_value (s q).values (x (suc q)) (eventually a)) (on (s q).values a) ((k q).right a)) (fair n)) i)
  temporal-fair (always a) c fair i =
      double (temporal_value (s i).values (x (suc i)) (always a)) (until-fair {U = λ n. ¬ T (temporal_value (s n).values (x (suc n)) (always a))}
      (λ n. rw (c (suc n)) (nand (on (s n).values a) (x (suc n)) ((k n).right a)))
      (λ n. later-map (λ q. unfair-always (temporal_value (s q).values (x (suc q)) (always a)) (on (s q).values a) ((k q).right a)) (fair n)) i)

-- ---- a run: x i is the label at i, made of the event there and the next label; every temporal node is fair again and again

module _ (w x : ℕ → ℕ) where
  abbrev Consistent : (ℕ → Valued) → List Split → Type 0
  Consistent s ns = (i : ℕ) → (value_all (w i) (x (suc i)) (s i) ns).label ≡ x i

  abbrev FairFrom : ℕ → (ℕ → Valued) → List Split → Type 0
  FairFrom j s ns = (q : ℕ) → j ≤ q → q < j + temporals ns → (i : ℕ) → Later (λ n. T (on (value_all (w n) (x (suc n)) (s n) ns).fairs q)) i

  more-plain : {fs : List Formula} {j : ℕ} {s : ℕ → Valued} (p : Plain) → ((i : ℕ) → Known w i fs j (s i))
      → (i : ℕ) → Known w i (fs ++ (plain_formula fs p ∷ [])) j (value (w i) (x (suc i)) (s i) (plain p))
  more-plain p k i = known-plain (k i) (x (suc i)) p (plain-right (k i) p)

  head-right : {fs : List Formula} {j : ℕ} {s : ℕ → Valued} (t : Temporal) (ns : List Split) → ((i : ℕ) → Known w i fs j (s i))
      → Consistent s (temporal t ∷ ns) → FairFrom j s (temporal t ∷ ns)
      → (i : ℕ) → Sat w (temporal_formula fs t) i ⇔ temporal_value (s i).values (on (x (suc i)) j) t
  head-right {j = j} {s} t ns k c f =
      temporal-fair k (λ i. on (x i) j) t
      (λ i. sym (label-here (k i) (w i) (x (suc i)) t ns) ∙ ap (λ (y : ℕ). on y j) (c i))
      (λ i. later-map (λ n h. subst T (fairs-here (k n) (w n) (x (suc n)) t ns) h) (f j (le_refl j) (omega arith) i))

  pub run-label : {fs : List Formula} {j : ℕ} {s : ℕ → Valued} (ns : List Split) → ((i : ℕ) → Known w i fs j (s i))
      → Consistent s ns → FairFrom j s ns → (i : ℕ) → LabelRight w i fs j (x i) ns
  run-label [] k c f i = tt
  run-label {fs = fs} {j = j} {s = s} (plain p ∷ ns) k c f i =
      run-label {fs = fs ++ (plain_formula fs p ∷ [])} {j = j} {s = λ n. value (w n) (x (suc n)) (s n) (plain p)} ns (more-plain p k) c f i
  run-label {fs = fs} {j = j} {s = s} (temporal t ∷ ns) k c f i = (
    rw (← (c i)) (iff-trans (obligation-right (k i) t (on (x (suc i)) j) (head-right t ns k c f i)) (t_same _ _ (sym (label-here (k i) (w i) (x (suc i)) t ns)))),
    run-label {fs = fs ++ (temporal_formula fs t ∷ [])} {j = suc j} {s = λ n. value (w n) (x (suc n)) (s n) (temporal t)} ns (λ n. known-temporal (k n) (x (suc n)) t (head-right t ns k c f n)) c (λ q l h. f q (omega arith) (omega arith)) i,
  )

  -- the labels of a fair run are right
  pub run-right : (ns : List Split) → ((i : ℕ) → (valued (w i) (x (suc i)) ns).label ≡ x i)
      → ((q : ℕ) → q < temporals ns → (i : ℕ) → Later (λ n. T (on (valued (w n) (x (suc n)) ns).fairs q)) i)
      → (i : ℕ) → LabelRight w i [] 0 (x i) ns
  run-right ns c f = run-label ns (λ n. known-none w n) c (λ q l h. f q (omega arith))
