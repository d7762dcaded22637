-- An injection of the numbers below n into those below k gives n ≤ k; if n ≡ k it is onto, and its inverse is a function.
use mathlib.Core.Path.{◌≡◌, refl, sym, ◌∙◌}
use mathlib.Core.Logic.{◌⊎◌, ◌≢◌, inl, inr}
use mathlib.Core.Bool.{Bool, true, false, cond}
use Prim.Native.Nat.{ℕ, zero, suc, ◌≤◌, ◌<◌}
use native.Mathlib.Nat.{le_refl, not-suc-le-zero, le_of_suc-le-suc}
use native.Mathlib.Decide.{ℕ_discrete, dec_lt}
use native.Mathlib.Omega.{arith}
use lib.Dec.{eqb}
use borrow.Author.Tests.{eqb-true, eqb-false}
use Rattle.sequences.specs.Tabulate.{least_below}

-- f maps the numbers below n into those below k, no two to the same
pub record Injective (n k : ℕ) (f : ℕ → ℕ) : Type 0 where
  pub into : (i : ℕ) → i < n → f i < k
  pub injective : (i j : ℕ) → i < n → j < n → f i ≡ f j → i ≡ j

-- and back is its inverse
pub record Onto (n k : ℕ) (f back : ℕ → ℕ) : Type 0 where
  pub back_in : (j : ℕ) → j < k → back j < n
  pub there : (j : ℕ) → j < k → f (back j) ≡ j
  pub again : (i : ℕ) → i < n → back (f i) ≡ i

-- x if P is so, else y
choose : {P : Type 0} → Dec P → ℕ → ℕ → ℕ
choose (yes p) x y = x
choose (no p) x y = y

choose-is : {P : Type 0} (d : Dec P) (x y : ℕ) → (P × (choose d x y ≡ x)) ⊎ ((¬ P) × (choose d x y ≡ y))
unfolding choose
choose-is (yes p) x y = inl (p, refl)
choose-is (no p) x y = inr (p, refl)

-- without its last argument, and with that one's value in the place of k
shorter : {n k : ℕ} {f : ℕ → ℕ} → Injective (suc n) (suc k) f → Injective n k (λ i. choose (ℕ_discrete (f i) k) (f n) (f i))
shorter {n} {k} {f} h = record { into = λ i l. below i l (choose-is (ℕ_discrete (f i) k) (f n) (f i)); injective = λ i j l m e. one i j l m e (choose-is (ℕ_discrete (f i) k) (f n) (f i)) (choose-is (ℕ_discrete (f j) k) (f n) (f j)) }
  where
    At : ℕ → ℕ → Type 0
    At i z = ((f i ≡ k) × (z ≡ f n)) ⊎ ((f i ≢ k) × (z ≡ f i))

    apart : (i : ℕ) → i < n → f i ≢ f n
    apart i l e = let a : i ≡ n = h.injective i n (omega arith) (omega arith) e in omega arith

    below : (i : ℕ) → i < n → {z : ℕ} → At i z → z < k
    below i l (inl p) =
        let a : f n < suc k = h.into n (le_refl (suc n)) in
        let b : f n ≢ k = λ q. absurd (apart i l (p.0 ∙ sym q)) in
        omega arith
    below i l (inr p) = let a : f i < suc k = h.into i (omega arith) in omega arith

    one : (i j : ℕ) → i < n → j < n → {y z : ℕ} → y ≡ z → At i y → At j z → i ≡ j
    one i j l m e (inl p) (inl q) = h.injective i j (omega arith) (omega arith) (p.0 ∙ sym q.0)
    one i j l m e (inl p) (inr q) = absurd (apart j m (sym q.1 ∙ sym e ∙ p.1))
    one i j l m e (inr p) (inl q) = absurd (apart i l (sym p.1 ∙ e ∙ q.1))
    one i j l m e (inr p) (inr q) = h.injective i j (omega arith) (omega arith) (sym p.1 ∙ e ∙ q.1)

pub injective-le : (n k : ℕ) {f : ℕ → ℕ} → Injective n k f → n ≤ k
injective-le zero k h = omega arith
injective-le (suc n) zero h = absurd (not-suc-le-zero (h.into zero (omega arith)))
injective-le (suc n) (suc k) h = let r : n ≤ k = injective-le n k (shorter h) in omega arith

-- j added, where f does not take it
longer : {n k : ℕ} {f : ℕ → ℕ} (j : ℕ) → Injective n k f → j < k → ((i : ℕ) → i < n → f i ≢ j) → Injective (suc n) k (λ i. choose (ℕ_discrete i n) j (f i))
longer {n} {k} {f} j h l miss = record {
  into = λ i m. below i m (choose-is (ℕ_discrete i n) j (f i));
  injective = λ i i' m m' e. one i i' m m' e (choose-is (ℕ_discrete i n) j (f i)) (choose-is (ℕ_discrete i' n) j (f i'));
}
  where
    At : ℕ → ℕ → Type 0
    At i z = ((i ≡ n) × (z ≡ j)) ⊎ ((i ≢ n) × (z ≡ f i))

    below : (i : ℕ) → i < suc n → {z : ℕ} → At i z → z < k
    below i m (inl p) = omega arith
    below i m (inr p) = let a : f i < k = h.into i (omega arith) in omega arith

    one : (i i' : ℕ) → i < suc n → i' < suc n → {y z : ℕ} → y ≡ z → At i y → At i' z → i ≡ i'
    one i i' m m' e (inl p) (inl q) = omega arith
    one i i' m m' e (inl p) (inr q) = absurd (miss i' (omega arith) (sym q.1 ∙ sym e ∙ p.1))
    one i i' m m' e (inr p) (inl q) = absurd (miss i (omega arith) (sym p.1 ∙ e ∙ q.1))
    one i i' m m' e (inr p) (inr q) = h.injective i i' (omega arith) (omega arith) (sym p.1 ∙ e ∙ q.1)

-- k is the least index below n that passes, or n if none does
pub record Least (n : ℕ) (p : ℕ → Bool) (k : ℕ) : Type 0 where
  pub bound : k ≤ n
  pub before : (i : ℕ) → i < k → p i ≡ false
  pub here : k < n → p k ≡ true

pub least-below : (n : ℕ) (p : ℕ → Bool) → Least n p (least_below n p)
least-below zero p = record { bound = le_refl 0; before = λ i l. absurd (not-suc-le-zero l); here = λ l. absurd (not-suc-le-zero l) }
least-below (suc n) p = go (p zero) refl (least-below n (λ i. p (suc i)))
  where
    go : (b : Bool) → p zero ≡ b → {r : ℕ} → Least n (λ i. p (suc i)) r → Least (suc n) p (cond b zero (suc r))
    go true e x = record { bound = omega arith; before = λ i l. absurd (not-suc-le-zero l); here = λ l. e }
    go false e {r} x = record { bound = omega arith; before = before; here = λ l. x.here (le_of_suc-le-suc l) }
      where
        before : (i : ℕ) → i < suc r → p i ≡ false
        before zero l = e
        before (suc i) l = x.before i (le_of_suc-le-suc l)

-- the least argument at which f takes j
abbrev pub inverse : ℕ → (ℕ → ℕ) → ℕ → ℕ
inverse n f j = least_below n (λ i. eqb (f i) j)

pub injective-onto : (n k : ℕ) {f : ℕ → ℕ} → Injective n k f → n ≡ k → Onto n k f (inverse n f)
injective-onto n k {f} h q = record {
  back_in = λ j l. (found j l).0;
  there = λ j l. (found j l).1;
  again = λ i l. let m : f i < k = h.into i l in h.injective (inverse n f (f i)) i (found (f i) m).0 l (found (f i) m).1;
}
  where
    At : ℕ → Type 0
    At j = (inverse n f j < n) × (f (inverse n f j) ≡ j)

    found : (j : ℕ) → j < k → At j
    found j l = go (dec_lt (inverse n f j) n)
      where
        least : Least n (λ i. eqb (f i) j) (inverse n f j)
        least = least-below n (λ i. eqb (f i) j)

        go : Dec (inverse n f j < n) → At j
        go (yes h) = (h, eqb-true (f (inverse n f j)) j (least.here h))
        go (no m) = absurd (omega (arith, injective-le (suc n) k (longer j h l (λ i q. eqb-false (f i) j (least.before i (omega arith))))))
