-- Numbers as finite sets: which numbers are in the sets that specs/Sets.antt makes, and that a set is told by its members.
use mathlib.Core.Path.{◌≡◌, refl, sym, ap, ◌∙◌, subst}
use mathlib.Core.Logic.{◌⊎◌, ◌≢◌, inl, inr}
use mathlib.Core.Bool.{Bool, true, false, false≢true, ◌&&◌, ◌||◌}
use Prim.Native.Nat.{ℕ, zero, suc, ◌+◌, ◌*◌, ◌/◌, ◌%◌, ◌^◌, ◌≤◌, ◌<◌, max}
use native.Mathlib.Nat.{le_trans, pow-suc, zero-add, zero-div, div-one, div-div-eq-div-mul, mul_comm}
use native.Mathlib.Decide.{ℕ_discrete, dec_lt}
use native.Mathlib.Omega.{arith}
use lib.Dec.{T, eqb}
use lib.Bits.{bit_and, bit_or, and_shr, and_mod, or_shr, or_step}
use lib.Pow.{pow_pos, pow_mono}
use Rattle.ltl.specs.Sets.{on, put, set_below}

pub on-zero : (i : ℕ) → on 0 i ≡ false
on-zero i = rw zero-div

-- membership by the lowest bit and the others
pub on-first : (A : ℕ) → on A 0 ≡ eqb (A % 2) 1
on-first A = ap (λ (q : ℕ). eqb (q % 2) 1) (div-one A)

pub on-suc : (A i : ℕ) → on A (suc i) ≡ on (A / 2) i
on-suc A i = ap (λ (q : ℕ). eqb (q % 2) 1) (ap (λ (d : ℕ). A / d) (pow-suc 2 i ∙ mul_comm (2 ^ i) 2) ∙ sym (div-div-eq-div-mul A 2 (2 ^ i)))

half_lt : (A k : ℕ) → A < 2 ^ suc k → A / 2 < 2 ^ k
half_lt A k h = omega (arith, pow-suc 2 k)

-- a set of numbers below k has none from k on
pub on_out : (A k i : ℕ) → A < 2 ^ k → k ≤ i → on A i ≡ false
on_out A zero i h l = let e : A ≡ 0 = omega arith in rw e (on-zero i)
on_out A (suc k) zero h l = absurd (omega arith)
on_out A (suc k) (suc i) h l = on-suc A i ∙ on_out (A / 2) k i (half_lt A k h) (omega arith)

-- two sets of numbers below k with the same members are equal
pub same_set : (k A B : ℕ) → A < 2 ^ k → B < 2 ^ k → ((i : ℕ) → i < k → on A i ≡ on B i) → A ≡ B
same_set zero A B h l f = omega arith
same_set (suc k) A B h l f =
    let r : A / 2 ≡ B / 2 = same_set k (A / 2) (B / 2) (half_lt A k h) (half_lt B k l) (λ i g. sym (on-suc A i) ∙ f (suc i) (omega arith) ∙ on-suc B i) in
    let z : A % 2 ≡ B % 2 = low (A % 2) (B % 2) (omega arith) (omega arith) (sym (on-first A) ∙ f 0 (omega arith) ∙ on-first B) in
    omega arith
  where
    low : (x y : ℕ) → x < 2 → y < 2 → eqb x 1 ≡ eqb y 1 → x ≡ y
    low zero zero p q e = refl
    low zero (suc zero) p q e = absurd (false≢true e)
    low (suc zero) zero p q e = absurd (false≢true (sym e))
    low (suc zero) (suc zero) p q e = refl
    low zero (suc (suc y)) p q e = absurd (omega arith)
    low (suc zero) (suc (suc y)) p q e = absurd (omega arith)
    low (suc (suc x)) y p q e = absurd (omega arith)

below-pow : (n : ℕ) → n < 2 ^ n
below-pow zero = omega arith
below-pow (suc n) = omega (arith, below-pow n, pow-suc 2 n)

pub same-members : (A B : ℕ) → ((i : ℕ) → on A i ≡ on B i) → A ≡ B
same-members A B f = same_set (A + B) A B (le_trans (below-pow A) (pow_mono (omega arith))) (le_trans (below-pow B) (pow_mono (omega arith))) (λ i h. f i)

-- ---- one more number

pub put-lt : (k : ℕ) (b : Bool) (A : ℕ) → A < 2 ^ k → put k b A < 2 ^ suc k
put-lt k true A h = omega (arith, pow-suc 2 k)
put-lt k false A h = omega (arith, pow-suc 2 k)

put_low : (k : ℕ) (b : Bool) (A : ℕ) → put (suc k) b A % 2 ≡ A % 2
put_low k true A = omega (arith, pow-suc 2 k)
put_low k false A = refl

put-half : (k : ℕ) (b : Bool) (A : ℕ) → put (suc k) b A / 2 ≡ put k b (A / 2)
put-half k true A = omega (arith, pow-suc 2 k)
put-half k false A = refl

pub put-here : (k : ℕ) (b : Bool) (A : ℕ) → A < 2 ^ k → on (put k b A) k ≡ b
put-here zero true A h = let e : A ≡ 0 = omega arith in rw e
put-here zero false A h = let e : A ≡ 0 = omega arith in rw e
put-here (suc k) b A h = on-suc (put (suc k) b A) k ∙ ap (λ (q : ℕ). on q k) (put-half k b A) ∙ put-here k b (A / 2) (half_lt A k h)

pub put_other : (k : ℕ) (b : Bool) (A i : ℕ) → A < 2 ^ k → i ≢ k → on (put k b A) i ≡ on A i
put_other zero b A zero h n = absurd (n refl)
put_other zero true A (suc i) h n = on-suc (A + 1) i ∙ ap (λ (q : ℕ). on q i) (omega arith) ∙ sym (on-suc A i)
put_other zero false A (suc i) h n = refl
put_other (suc k) b A zero h n = on-first (put (suc k) b A) ∙ ap (λ (q : ℕ). eqb q 1) (put_low k b A) ∙ sym (on-first A)
put_other (suc k) b A (suc i) h n =
    on-suc (put (suc k) b A) i ∙ ap (λ (q : ℕ). on q i) (put-half k b A)
    ∙ put_other k b (A / 2) i (half_lt A k h) (λ e. n (ap suc e)) ∙ sym (on-suc A i)

-- ---- sets by a test

pub set-lt : (n : ℕ) (f : ℕ → Bool) → set_below n f < 2 ^ n
set-lt zero f = omega arith
set-lt (suc n) f = put-lt n (f n) (set_below n f) (set-lt n f)

pub on-set : (n : ℕ) (f : ℕ → Bool) (i : ℕ) → i < n → on (set_below n f) i ≡ f i
on-set zero f i h = absurd (omega arith)
on-set (suc n) f i h = go (on-set n f i) (ℕ_discrete i n)
  where
    go : (i < n → on (set_below n f) i ≡ f i) → Dec (i ≡ n) → on (put n (f n) (set_below n f)) i ≡ f i
    go r (yes e) = rw e (put-here n (f n) (set_below n f) (set-lt n f))
    go r (no e) = put_other n (f n) (set_below n f) i (set-lt n f) e ∙ r (omega arith)

-- a set made by a test has only numbers below its bound, and they pass the test
pub in-set : (n : ℕ) (f : ℕ → Bool) (i : ℕ) → T (on (set_below n f) i) → (i < n) × T (f i)
in-set n f i t = go (dec_lt i n)
  where
    go : Dec (i < n) → (i < n) × T (f i)
    go (yes h) = (h, subst T (on-set n f i h) t)
    go (no h) = absurd (subst T (on_out (set_below n f) n i (set-lt n f) (omega arith)) t)

pub set-in : (n : ℕ) (f : ℕ → Bool) (i : ℕ) → i < n → T (f i) → T (on (set_below n f) i)
set-in n f i h t = subst T (sym (on-set n f i h)) t

pub set_same : (n : ℕ) (f g : ℕ → Bool) → ((i : ℕ) → i < n → f i ≡ g i) → set_below n f ≡ set_below n g
set_same n f g h = same_set n (set_below n f) (set_below n g) (set-lt n f) (set-lt n g) (λ i l. on-set n f i l ∙ h i l ∙ sym (on-set n g i l))

-- a set whose members are below k
pub members-lt : (k A : ℕ) → ((i : ℕ) → T (on A i) → i < k) → A < 2 ^ k
members-lt k A f = subst (λ (B : ℕ). B < 2 ^ k) (sym (same-members A (set_below k (on A)) (λ i. go i (dec_lt i k)))) (set-lt k (on A))
  where
    go : (i : ℕ) → Dec (i < k) → on A i ≡ on (set_below k (on A)) i
    go i (yes h) = sym (on-set k (on A) i h)
    go i (no h) = out (on A i) (f i) ∙ sym (on_out (set_below k (on A)) k i (set-lt k (on A)) (omega arith))
      where
        out : (b : Bool) → (T b → i < k) → b ≡ false
        out true g = absurd (h (g tt))
        out false g = refl

-- ---- unions, and the numbers in both

pub on_or : (A B i : ℕ) → on (bit_or A B) i ≡ (on A i || on B i)
on_or A B i =
    ap (λ (x : ℕ). eqb (x % 2) 1) (or_shr A B i ∙ or_step (A / 2 ^ i) (B / 2 ^ i))
    ∙ ap (λ (x : ℕ). eqb x 1) (lowest (bit_or (A / 2 ^ i / 2) (B / 2 ^ i / 2)) (max (A / 2 ^ i % 2) (B / 2 ^ i % 2)) (omega arith))
    ∙ digit (A / 2 ^ i % 2) (B / 2 ^ i % 2) (omega arith) (omega arith)
  where
    lowest : (q x : ℕ) → x < 2 → (q * 2 + x) % 2 ≡ x
    lowest q x h = omega arith

    digit : (x y : ℕ) → x < 2 → y < 2 → eqb (max x y) 1 ≡ (eqb x 1 || eqb y 1)
    digit zero zero p q = refl
    digit zero (suc zero) p q = refl
    digit (suc zero) zero p q = refl
    digit (suc zero) (suc zero) p q = refl
    digit zero (suc (suc y)) p q = absurd (omega arith)
    digit (suc zero) (suc (suc y)) p q = absurd (omega arith)
    digit (suc (suc x)) y p q = absurd (omega arith)

pub on_and : (A B i : ℕ) → on (bit_and A B) i ≡ (on A i && on B i)
on_and A B i =
    ap (λ (x : ℕ). eqb (x % 2) 1) (and_shr A B i) ∙ ap (λ (x : ℕ). eqb x 1) (and_mod (A / 2 ^ i) (B / 2 ^ i) 1)
    ∙ digit (A / 2 ^ i % 2) (B / 2 ^ i % 2) (omega arith) (omega arith)
  where
    digit : (x y : ℕ) → x < 2 → y < 2 → eqb (bit_and x y) 1 ≡ (eqb x 1 && eqb y 1)
    digit zero zero p q = refl
    digit zero (suc zero) p q = refl
    digit (suc zero) zero p q = refl
    digit (suc zero) (suc zero) p q = refl
    digit zero (suc (suc y)) p q = absurd (omega arith)
    digit (suc zero) (suc (suc y)) p q = absurd (omega arith)
    digit (suc (suc x)) y p q = absurd (omega arith)

pub in-or : (A B i : ℕ) → T (on (bit_or A B) i) → T (on A i) ⊎ T (on B i)
in-or A B i t = go (on A i) (subst T (on_or A B i) t)
  where
    go : (a : Bool) → T (a || on B i) → T a ⊎ T (on B i)
    go true t = inl tt
    go false t = inr t

pub or-in : (A B i : ℕ) → T (on A i) ⊎ T (on B i) → T (on (bit_or A B) i)
or-in A B i t = subst T (sym (on_or A B i)) (go (on A i) t)
  where
    go : (a : Bool) → T a ⊎ T (on B i) → T (a || on B i)
    go true t = tt
    go false (inl t) = absurd t
    go false (inr t) = t

-- the set of one number
pub single-in : (p : ℕ) → T (on (2 ^ p) p)
single-in p = let e : 0 + 2 ^ p ≡ 2 ^ p = zero-add (2 ^ p) in subst (λ (A : ℕ). T (on A p)) e (subst T (sym (put-here p true 0 (pow_pos p))) tt)

pub in-single : (p i : ℕ) → T (on (2 ^ p) i) → i ≡ p
in-single p i t = go (ℕ_discrete i p)
  where
    go : Dec (i ≡ p) → i ≡ p
    go (yes e) = e
    go (no e) =
        let z : 0 + 2 ^ p ≡ 2 ^ p = zero-add (2 ^ p) in
        absurd (subst T (ap (λ (A : ℕ). on A i) (sym z) ∙ put_other p true 0 i (pow_pos p) e ∙ on-zero i) t)
