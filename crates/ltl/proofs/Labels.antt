-- The label of a position: the truth there of each temporal node's obligation. The label of the next position and the event fix it, and every node's truth.
use mathlib.Core.Path.{◌≡◌, sym, ◌∙◌}
use mathlib.Core.Logic.{◌⊎◌, ◌↔◌, inl, inr}
use mathlib.Core.Bool.{Bool, true, false, ◌&&◌}
use mathlib.Core.List.{List, [], ◌∷◌, ◌++◌}
use Prim.Native.Nat.{ℕ, zero, suc, ◌+◌, ◌^◌, ◌<◌}
use native.Mathlib.Nat.{zero-add, add-zero, add-suc, suc-add}
use native.Mathlib.Omega.{arith}
use Rattle.meaning.specs.Formulas.{Formula, Eventually, Sat}
use Rattle.ltl.specs.Sets.{on, set_below}
use Rattle.ltl.specs.Nodes.{Plain, Temporal, next, until, eventually, always, Split, plain, temporal, temporals, operand, plain_formula, temporal_formula, obligation, obligations, split_formulas}
use Rattle.ltl.specs.Valuation.{temporal_value, label_bit, Valued, none, value, value_all, valued}
use Rattle.ltl.proofs.Sets.{same_set, on-set, set-lt}
use Rattle.ltl.proofs.Truth.{◌⇔◌, iff-trans, t_same, t-eq, t-and, t-or}
use Rattle.ltl.proofs.Unfolding.{until-step}
use Rattle.ltl.proofs.Valuation.{sized-none, sized-all, temporals-all, label-here, Known, known-none, known-plain, known-temporal, plain-right}

eventually-step : {A : ℕ → Type 0} {i : ℕ} → Eventually A i ↔ (A i ⊎ Eventually A (suc i))
eventually-step {A} {i} = iff-trans until-step (λ p. elim p [ inl x ↦ inl x | inr y ↦ inr y.1 ], λ p. elim p [ inl x ↦ inl x | inr y ↦ inr (tt, y) ])

-- where A at i is decided by a
always-step : {A : ℕ → Type 0} {i : ℕ} (a : Bool) → A i ⇔ a → (¬ Eventually (λ k. ¬ A k) i) ↔ (A i × ¬ Eventually (λ k. ¬ A k) (suc i))
always-step {A} {i} a f = (
  λ n. (now a f (λ x. n (eventually-step.1 (inl x))), λ x. n (eventually-step.1 (inr x))),
  λ p x. elim (eventually-step.0 x) [ inl y ↦ y p.0 | inr y ↦ p.1 y ],
)
  where
    now : (a : Bool) → A i ⇔ a → ¬ ¬ A i → A i
    now true f n = f.1 tt
    now false f n = absurd (n (λ x. f.0 x))

module _ {w : ℕ → ℕ} {i : ℕ} {fs : List Formula} {j : ℕ} {s : Valued} (k : Known w i fs j s) where
  -- a temporal node's truth, from the truth of its obligation one position later
  pub temporal-right : (t : Temporal) (x : Bool) → Sat w (obligation fs t) (suc i) ⇔ x → Sat w (temporal_formula fs t) i ⇔ temporal_value s.values x t
  temporal-right (next a) x h = h
  temporal-right (until a b) x h =
      iff-trans until-step (t-or (on s.values b) (on s.values a && x) (k.right b) (t-and (on s.values a) x (k.right a) h))
  temporal-right (eventually a) x h = iff-trans eventually-step (t-or (on s.values a) x (k.right a) h)
  temporal-right (always a) x h =
      iff-trans (always-step {A = Sat w (operand fs a)} (on s.values a) (k.right a)) (t-and (on s.values a) x (k.right a) h)

  -- its obligation's truth, from its own
  pub obligation-right : (t : Temporal) (x : Bool) → Sat w (temporal_formula fs t) i ⇔ temporal_value s.values x t → Sat w (obligation fs t) i ⇔ label_bit s.values x t
  obligation-right (next a) x h = k.right a
  obligation-right (until a b) x h = h
  obligation-right (eventually a) x h = h
  obligation-right (always a) x h = h

-- y holds, from bit j on, for each temporal node of ns the truth at i of its obligation
abbrev pub LabelRight : (ℕ → ℕ) → ℕ → List Formula → ℕ → ℕ → List Split → Type 0
LabelRight w i fs j y [] = Unit {0}
LabelRight w i fs j y (plain p ∷ ns) = LabelRight w i (fs ++ (plain_formula fs p ∷ [])) j y ns
LabelRight w i fs j y (temporal t ∷ ns) = (Sat w (obligation fs t) i ⇔ on y j) × LabelRight w i (fs ++ (temporal_formula fs t ∷ [])) (suc j) y ns

module _ (w : ℕ → ℕ) (i y : ℕ) where
  plain_more : {fs : List Formula} {j : ℕ} {s : Valued} → Known w i fs j s → (p : Plain) → Known w i (fs ++ (plain_formula fs p ∷ [])) j (value (w i) y s (plain p))
  plain_more k p = known-plain k y p (plain-right k p)

  temporal-more : {fs : List Formula} {j : ℕ} {s : Valued} → Known w i fs j s → (t : Temporal) → Sat w (obligation fs t) (suc i) ⇔ on y j
      → Known w i (fs ++ (temporal_formula fs t ∷ [])) (suc j) (value (w i) y s (temporal t))
  temporal-more {j = j} k t h = known-temporal k y t (temporal-right k t (on y j) h)

  pub values-right : {fs : List Formula} {j : ℕ} {s : Valued} → Known w i fs j s → (ns : List Split) → LabelRight w (suc i) fs j y ns
      → Known w i (split_formulas fs ns) (j + temporals ns) (value_all (w i) y s ns)
  values-right {j = j} k [] l = rw add-zero k
  values-right {fs = fs} {j = j} {s = s} k (plain p ∷ ns) l =
      values-right {fs = fs ++ (plain_formula fs p ∷ [])} {j = j} {s = value (w i) y s (plain p)} (plain_more k p) ns l
  values-right {fs = fs} {j = j} {s = s} k (temporal t ∷ ns) l =
      rw (add-suc, ← suc-add)
      (values-right {fs = fs ++ (temporal_formula fs t ∷ [])} {j = suc j} {s = value (w i) y s (temporal t)} (temporal-more k t l.0) ns l.1)

  pub label-right : {fs : List Formula} {j : ℕ} {s : Valued} → Known w i fs j s → (ns : List Split) → LabelRight w (suc i) fs j y ns
      → LabelRight w i fs j (value_all (w i) y s ns).label ns
  label-right k [] l = tt
  label-right {fs = fs} {j = j} {s = s} k (plain p ∷ ns) l =
      label-right {fs = fs ++ (plain_formula fs p ∷ [])} {j = j} {s = value (w i) y s (plain p)} (plain_more k p) ns l
  label-right {fs = fs} {j = j} {s = s} k (temporal t ∷ ns) l = (
    iff-trans (obligation-right k t (on y j) (temporal-right k t (on y j) l.0)) (t_same _ _ (sym (label-here k (w i) y t ns))),
    label-right {fs = fs ++ (temporal_formula fs t ∷ [])} {j = suc j} {s = value (w i) y s (temporal t)} (temporal-more k t l.0) ns l.1,
  )

pub valued-temporals : (e y : ℕ) (ns : List Split) → (valued e y ns).temporals ≡ temporals ns
valued-temporals e y ns = temporals-all e y none ns ∙ zero-add (temporals ns)

pub label-lt : (e y : ℕ) (ns : List Split) → (valued e y ns).label < 2 ^ temporals ns
label-lt e y ns = rw valued-temporals at (sized-all e y sized-none ns).label-lt

-- ---- the right label as a set

obligations-right : (w : ℕ → ℕ) (i : ℕ) (fs : List Formula) (j y : ℕ) (ns : List Split) → LabelRight w i fs j y ns
    → (q : ℕ) → q < temporals ns → Sat w (operand (obligations fs ns) q) i ⇔ on y (j + q)
obligations-right w i fs j y [] l q h = absurd (omega arith)
obligations-right w i fs j y (plain p ∷ ns) l q h = obligations-right w i (fs ++ (plain_formula fs p ∷ [])) j y ns l q h
obligations-right w i fs j y (temporal t ∷ ns) l zero h = rw add-zero l.0
obligations-right w i fs j y (temporal t ∷ ns) l (suc q) h =
    rw (add-suc, ← suc-add) (obligations-right w i (fs ++ (temporal_formula fs t ∷ [])) (suc j) y ns l.1 q (omega arith))

pub right-obligations : (w : ℕ → ℕ) (i : ℕ) (fs : List Formula) (j y : ℕ) (ns : List Split)
    → ((q : ℕ) → q < temporals ns → Sat w (operand (obligations fs ns) q) i ⇔ on y (j + q)) → LabelRight w i fs j y ns
right-obligations w i fs j y [] f = tt
right-obligations w i fs j y (plain p ∷ ns) f = right-obligations w i (fs ++ (plain_formula fs p ∷ [])) j y ns f
right-obligations w i fs j y (temporal t ∷ ns) f = (
  rw add-zero at (f 0 (omega arith)),
  right-obligations w i (fs ++ (temporal_formula fs t ∷ [])) (suc j) y ns (λ q h. rw (add-suc, ← suc-add) at (f (suc q) (omega arith))),
)

-- there is at most one right label
pub label-one : (w : ℕ → ℕ) (ns : List Split) (i y z : ℕ) → y < 2 ^ temporals ns → z < 2 ^ temporals ns
    → LabelRight w i [] 0 y ns → LabelRight w i [] 0 z ns → y ≡ z
label-one w ns i y z h l r s =
    same_set (temporals ns) y z h l
    (λ q g. t-eq _ _ (rw zero-add at (obligations-right w i [] 0 y ns r q g)) (rw zero-add at (obligations-right w i [] 0 z ns s q g)))

-- the label of a position of a word whose truth is decided
module _ (w : ℕ → ℕ) (dec : (f : Formula) (i : ℕ) → Dec (Sat w f i)) where
  abbrev pub truth : Formula → ℕ → Bool
  truth f i = elim (dec f i) [ yes x ↦ true | no x ↦ false ]

  pub truth-right : (f : Formula) (i : ℕ) → Sat w f i ⇔ truth f i
  truth-right f i = go (dec f i)
    where
      go : (d : Dec (Sat w f i)) → Sat w f i ⇔ elim d [ yes x ↦ true | no x ↦ false ]
      go (yes x) = (λ _. tt, λ _. x)
      go (no x) = (x, λ t. absurd t)

  module _ (ns : List Split) where
    abbrev pub label_at : ℕ → ℕ
    label_at i = set_below (temporals ns) (λ q. truth (operand (obligations [] ns) q) i)

    pub label-at-right : (i : ℕ) → LabelRight w i [] 0 (label_at i) ns
    label-at-right i =
        right-obligations w i [] 0 (label_at i) ns
        (λ q h. rw (zero-add q, on-set (temporals ns) (λ q. truth (operand (obligations [] ns) q) i) q h) (truth-right (operand (obligations [] ns) q) i))

    -- there is one right label
    pub label-unique : (i y : ℕ) → y < 2 ^ temporals ns → LabelRight w i [] 0 y ns → y ≡ label_at i
    label-unique i y h l =
        label-one w ns i y (label_at i) h (set-lt (temporals ns) (λ q. truth (operand (obligations [] ns) q) i)) l
        (label-at-right i)

    -- the label here is made of the event and the next label
    pub label-step : (i : ℕ) → (valued (w i) (label_at (suc i)) ns).label ≡ label_at i
    label-step i =
        label-unique i (valued (w i) (label_at (suc i)) ns).label (label-lt (w i) (label_at (suc i)) ns)
        (label-right w i (label_at (suc i)) (known-none w i) ns (label-at-right (suc i)))

    -- and so is every node's value
    pub value-right : (i a : ℕ) → Sat w (operand (split_formulas [] ns) a) i ⇔ on (valued (w i) (label_at (suc i)) ns).values a
    value-right i a = (values-right w i (label_at (suc i)) (known-none w i) ns (label-at-right (suc i))).right a
