-- Where the goal is ⊥, any statement may be taken as decided, and any finitely many. What is decided anyway follows from
-- not being refuted.
use mathlib.Core.Path.{◌≡◌, subst, sym}
use mathlib.Core.Bool.{Bool, true, false}
use Prim.Native.Nat.{ℕ, zero, suc, ◌<◌}
use native.Mathlib.Nat.{le_refl}
use native.Mathlib.Decide.{ℕ_discrete}
use native.Mathlib.Omega.{arith}
use lib.Dec.{T}

pub decided : (A : Type 0) → ¬ ¬ Dec A
decided A n = n (no (λ x. n (yes x)))

pub all-below : (n : ℕ) {P : ℕ → Type 0} → ((j : ℕ) → j < n → ¬ ¬ P j) → ¬ ¬ ((j : ℕ) → j < n → P j)
all-below zero f g = g (λ j h. absurd (omega arith))
all-below (suc n) {P} f g =
    all-below n (λ j h. f j (omega arith))
    (λ r. f n (le_refl (suc n)) (λ x. g (λ j h. pick r x j h (ℕ_discrete j n))))
  where
    pick : ((j : ℕ) → j < n → P j) → P n → (j : ℕ) → j < suc n → Dec (j ≡ n) → P j
    pick r x j h (yes e) = subst P (sym e) x
    pick r x j h (no e) = r j (omega arith)

pub stable : {A : Type 0} → Dec A → ¬ ¬ A → A
stable (yes x) n = x
stable (no x) n = absurd (n x)

pub stable-test : (b : Bool) → ¬ ¬ T b → T b
stable-test true n = tt
stable-test false n = absurd (n (λ t. t))
