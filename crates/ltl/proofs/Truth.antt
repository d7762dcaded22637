-- Booleans that say whether a statement holds, through the connectives.
use mathlib.Core.Path.{◌≡◌, refl, sym, subst}
use mathlib.Core.Logic.{◌⊎◌, ◌↔◌, inl, inr}
use mathlib.Core.Bool.{Bool, true, false, not, ◌&&◌, ◌||◌, beq}
use lib.Dec.{T}

abbrev pub ◌⇔◌ : Type 0 → Bool → Type 0
◌⇔◌ A b = A ↔ T b

infix 20 ◌⇔◌
pub iff-trans : {A B C : Type 0} → A ↔ B → B ↔ C → A ↔ C
iff-trans f g = (λ x. g.0 (f.0 x), λ x. f.1 (g.1 x))

pub iff-sym : {A B : Type 0} → A ↔ B → B ↔ A
iff-sym f = (f.1, f.0)

pub t_same : (a b : Bool) → a ≡ b → T a ⇔ b
t_same a b e = (λ t. subst T e t, λ t. subst T (sym e) t)

-- the Boolean is determined
pub t-eq : {A : Type 0} (a b : Bool) → A ⇔ a → A ⇔ b → a ≡ b
t-eq true true f g = refl
t-eq true false f g = absurd (g.0 (f.1 tt))
t-eq false true f g = absurd (f.0 (g.1 tt))
t-eq false false f g = refl

pub t-equal : (a b : Bool) → (T a → T b) → (T b → T a) → a ≡ b
t-equal a b f g = t-eq a b (λ x. x, λ x. x) (f, g)

pub t_not : {A : Type 0} (b : Bool) → A ⇔ b → (¬ A) ⇔ not b
t_not true f = (λ n. n (f.1 tt), λ t. absurd t)
t_not false f = (λ n. tt, λ t x. f.0 x)

module _ {A B : Type 0} where
  pub t-and : (a b : Bool) → A ⇔ a → B ⇔ b → (A × B) ⇔ (a && b)
  t-and true b f g = (λ p. g.0 p.1, λ t. (f.1 tt, g.1 t))
  t-and false b f g = (λ p. f.0 p.0, λ t. absurd t)

  pub t-or : (a b : Bool) → A ⇔ a → B ⇔ b → (A ⊎ B) ⇔ (a || b)
  t-or true b f g = (λ p. tt, λ t. inl (f.1 tt))
  t-or false b f g = (λ p. elim p [ inl x ↦ absurd (f.0 x) | inr y ↦ g.0 y ], λ t. inr (g.1 t))

  pub t-fun : (a b : Bool) → A ⇔ a → B ⇔ b → (A → B) ⇔ (not a || b)
  t-fun true b f g = (λ p. g.0 (p (f.1 tt)), λ t x. g.1 t)
  t-fun false b f g = (λ p. tt, λ t x. absurd (f.0 x))

  pub t-iff : (a b : Bool) → A ⇔ a → B ⇔ b → (A ↔ B) ⇔ beq a b
  t-iff true true f g = (λ p. tt, λ t. (λ x. g.1 tt, λ x. f.1 tt))
  t-iff true false f g = (λ p. g.0 (p.0 (f.1 tt)), λ t. absurd t)
  t-iff false true f g = (λ p. f.0 (p.1 (g.1 tt)), λ t. absurd t)
  t-iff false false f g = (λ p. tt, λ t. (λ x. absurd (f.0 x), λ x. absurd (g.0 x)))

  pub t-xor : (a b : Bool) → A ⇔ a → B ⇔ b → ((A × ¬ B) ⊎ (¬ A × B)) ⇔ not (beq a b)
  t-xor true true f g = (λ p. elim p [ inl q ↦ q.1 (g.1 tt) | inr q ↦ q.0 (f.1 tt) ], λ t. absurd t)
  t-xor true false f g = (λ p. tt, λ t. inl (f.1 tt, g.0))
  t-xor false true f g = (λ p. tt, λ t. inr (f.0, g.1 tt))
  t-xor false false f g = (λ p. elim p [ inl q ↦ f.0 q.0 | inr q ↦ g.0 q.1 ], λ t. absurd t)
