-- Tests of every index and of every event, and the least number that an equivalence puts with a number.
use mathlib.Core.Path.{◌≡◌, refl, sym, ap, ◌∙◌, subst}
use mathlib.Core.Logic.{◌⊎◌, inl, inr, ⊎_elim}
use mathlib.Core.Bool.{Bool, true, false, cond, true≢false}
use Prim.Native.Nat.{ℕ, zero, suc, ◌≤◌, ◌<◌, suc-le-suc}
use native.Mathlib.Nat.{le_antisymm}
use native.Mathlib.Decide.{dec_lt}
use native.Mathlib.Omega.{arith}
use Rattle.sequences.specs.Tabulate.{all_below, least_below}
use Rattle.sequences.proofs.Loops.{all-not}
use Rattle.sequences.proofs.Pointwise.{is_true, all-is}
use Rattle.sequences.proofs.Pigeonhole.{Least, least-below}
use Rattle.meaning.specs.Traces.{Alphabet, Event}
use Rattle.moore.specs.Grouping.{all_events}

pub bool_cases : (b : Bool) → (b ≡ true) ⊎ (b ≡ false)
bool_cases true = inl refl
bool_cases false = inr refl

pub clash : {b : Bool} → b ≡ true → b ≡ false → ⊥
clash h l = true≢false (sym h ∙ l)

-- ---- every index below n
pub all_true : (n : ℕ) (p : ℕ → Bool) → all_below n p ≡ true → (i : ℕ) → i < n → p i ≡ true
all_true n p h i l = ⊎_elim (λ e. e) (λ e. absurd (clash h (all-not n p i l e))) (bool_cases (p i))

pub all-fails : (n : ℕ) (p : ℕ → Bool) → all_below n p ≡ false → (i : ℕ) × (i < n) × (p i ≡ false)
all-fails zero p h = absurd (true≢false h)
all-fails (suc n) p h = go (p zero) refl (all-fails n (λ i. p (suc i)))
  where
    go : (b : Bool) → p zero ≡ b → (all_below n (λ i. p (suc i)) ≡ false → (i : ℕ) × (i < n) × (p (suc i) ≡ false)) → (i : ℕ) × (i < suc n) × (p i ≡ false)
    go true e r = let x = r (rw e at h) in (suc x.0, suc-le-suc x.1, x.2)
    go false e r = (0, omega arith, e)

-- ---- every event that can happen
module _ (Σ : Alphabet) (p : ℕ → Bool) where
  pub events-true : all_events Σ p ≡ true → (e : ℕ) → Event Σ e → p e ≡ true
  events-true h e l = ap (λ (b : Bool). cond b (p e) true) (sym (is_true (Σ.possible e) l.1)) ∙ all_true Σ.width (λ e. cond (Σ.possible e) (p e) true) h e l.0

  pub events-are : ((e : ℕ) → Event Σ e → p e ≡ true) → all_events Σ p ≡ true
  events-are h = all-is Σ.width (λ e. cond (Σ.possible e) (p e) true) (λ e l. go e l (Σ.possible e) refl)
    where
      go : (e : ℕ) → e < Σ.width → (b : Bool) → Σ.possible e ≡ b → cond b (p e) true ≡ true
      go e l true q = h e (l, rw q tt)
      go e l false q = refl

  pub events-fail : all_events Σ p ≡ false → (e : ℕ) × Event Σ e × (p e ≡ false)
  events-fail h = let x = all-fails Σ.width (λ e. cond (Σ.possible e) (p e) true) h in go x.0 x.1 (Σ.possible x.0) refl x.2
    where
      go : (e : ℕ) → e < Σ.width → (b : Bool) → Σ.possible e ≡ b → cond b (p e) true ≡ false → (e : ℕ) × Event Σ e × (p e ≡ false)
      go e l true q r = (e, (l, rw q tt), r)
      go e l false q r = absurd (true≢false r)

-- ---- the least number that an equivalence puts with a number
pub record Equivalence (same : ℕ → ℕ → Bool) : Type 0 where
  pub self : (s : ℕ) → same s s ≡ true
  pub swap : (s t : ℕ) → same s t ≡ true → same t s ≡ true
  pub join : (s t u : ℕ) → same s t ≡ true → same t u ≡ true → same s u ≡ true

abbrev pub name : (ℕ → ℕ → Bool) → ℕ → ℕ
name same s = least_below s (λ t. same t s)

module _ {same : ℕ → ℕ → Bool} (q : Equivalence same) where
  least : (s : ℕ) → Least s (λ t. same t s) (name same s)
  least s = least-below s (λ t. same t s)

  pub name-le : (s : ℕ) → name same s ≤ s
  name-le s = (least s).bound

  pub name-same : (s : ℕ) → same (name same s) s ≡ true
  name-same s = go (dec_lt (name same s) s)
    where
      go : Dec (name same s < s) → same (name same s) s ≡ true
      go (yes l) = (least s).here l
      go (no l) = let e : name same s ≡ s = omega (arith, name-le s) in subst (λ (t : ℕ). same t s ≡ true) (sym e) (q.self s)

  name-least : (s t : ℕ) → same t s ≡ true → name same s ≤ t
  name-least s t h = go (dec_lt t (name same s))
    where
      go : Dec (t < name same s) → name same s ≤ t
      go (yes l) = absurd (clash h ((least s).before t l))
      go (no l) = omega arith

  pub same_name : (s t : ℕ) → same s t ≡ true → name same s ≡ name same t
  same_name s t h = le_antisymm (name-least s (name same t) (q.join (name same t) t s (name-same t) (q.swap s t h))) (name-least t (name same s) (q.join (name same s) s t (name-same s) h))

  pub name-eq : (s t : ℕ) → name same s ≡ name same t → same s t ≡ true
  name-eq s t e = q.join s (name same s) t (q.swap (name same s) s (name-same s)) (subst (λ (u : ℕ). same u t ≡ true) (sym e) (name-same t))
