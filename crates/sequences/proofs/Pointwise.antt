-- Functions and tests that agree below a bound give the same.
--     tabulate-same, all_same, least-same     the lists, the tests of every index, the least indices
--     all-is                                  a test that holds at every index
--     is_true, is_false                       a Boolean by the statement that it holds
use mathlib.Core.Path.{◌≡◌, refl, ap₂}
use mathlib.Core.Bool.{Bool, true, false, cond}
use mathlib.Core.List.{List, ◌∷◌}
use Prim.Native.Nat.{ℕ, zero, suc, ◌<◌}
use native.Mathlib.Omega.{arith}
use lib.Dec.{T}
use Rattle.sequences.specs.Tabulate.{tabulate, all_below, least_below}

pub is_true : (b : Bool) → T b → b ≡ true
is_true true t = refl
is_true false t = absurd t

pub is_false : (b : Bool) → ¬ T b → b ≡ false
is_false true n = absurd (n tt)
is_false false n = refl

pub tabulate-same : {A : Type 0} (n : ℕ) (f g : ℕ → A) → ((i : ℕ) → i < n → f i ≡ g i) → tabulate n f ≡ tabulate n g
tabulate-same zero f g h = refl
tabulate-same {A} (suc n) f g h = ap₂ (λ (x : A) (xs : List A). x ∷ xs) (h 0 (omega arith)) (tabulate-same n (λ i. f (suc i)) (λ i. g (suc i)) (λ i l. h (suc i) (omega arith)))

pub all_same : (n : ℕ) (p q : ℕ → Bool) → ((i : ℕ) → i < n → p i ≡ q i) → all_below n p ≡ all_below n q
all_same zero p q h = refl
all_same (suc n) p q h = ap₂ (λ (b c : Bool). cond b c false) (h 0 (omega arith)) (all_same n (λ i. p (suc i)) (λ i. q (suc i)) (λ i l. h (suc i) (omega arith)))

pub all-is : (n : ℕ) (p : ℕ → Bool) → ((i : ℕ) → i < n → p i ≡ true) → all_below n p ≡ true
all-is zero p h = refl
all-is (suc n) p h = rw (h zero (omega arith)) (all-is n (λ i. p (suc i)) (λ i l. h (suc i) (omega arith)))

pub least-same : (n : ℕ) (p q : ℕ → Bool) → ((i : ℕ) → i < n → p i ≡ q i) → least_below n p ≡ least_below n q
least-same zero p q h = refl
least-same (suc n) p q h =
    ap₂ (λ (b : Bool) (k : ℕ). cond b 0 (suc k)) (h 0 (omega arith)) (least-same n (λ i. p (suc i)) (λ i. q (suc i)) (λ i l. h (suc i) (omega arith)))
