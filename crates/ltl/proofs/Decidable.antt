-- Truth on a lasso is decidable: the witness of an until stands within the stem and one turn of the loop, or nowhere.
use mathlib.Core.Path.{◌≡◌, refl, subst}
use mathlib.Core.Logic.{◌⊎◌, inl, inr}
use Prim.Native.Nat.{ℕ, zero, suc, ◌+◌, ◌-◌, ◌≤◌, ◌<◌}
use native.Mathlib.Nat.{le_refl}
use native.Mathlib.Decide.{ℕ_discrete, dec_le}
use native.Mathlib.Omega.{arith}
use lib.ListN.{length}
use Rattle.meaning.specs.Traces.{Lasso, at}
use Rattle.meaning.specs.Bytes.{bit}
use Rattle.meaning.specs.Formulas.{Formula, falsum, verum, signal, at_least, neg, and, or, implies, iff, xor, next, until, eventually, always, Until, Sat, Holds, count_on}
use Rattle.ltl.proofs.Shift.{holds-period}

-- an until whose time is below i + n
record Soon (A B : ℕ → Type 0) (n i : ℕ) : Type 0 where
  base : Until A B i
  soon : base.time < i + n

module _ {A B : ℕ → Type 0} where
  soon-now : {n i : ℕ} → B i → Soon A B (suc n) i
  soon-now {i} b = record { base = record { time = i; after = le_refl i; there = b; before = λ k p q. absurd (omega arith) }; soon = omega arith }

  soon-later : {n i : ℕ} → A i → Soon A B n (suc i) → Soon A B (suc n) i
  soon-later {n} {i} a s =
      let u = s.base in
      let l : suc i ≤ u.time = u.after in
      let q : u.time < suc i + n = s.soon in
      record { base = record { time = u.time; after = omega arith; there = u.there; before = λ k p q. go k p q (dec_le (suc i) k) }; soon = omega arith }
    where
      go : (k : ℕ) → i ≤ k → k < s.base.time → Dec (suc i ≤ k) → A k
      go k p q (yes y) = s.base.before k y q
      go k p q (no z) = subst A (omega arith) a

  soon-split : {n i : ℕ} → Soon A B (suc n) i → B i ⊎ (A i × Soon A B n (suc i))
  soon-split {n} {i} s = go (ℕ_discrete s.base.time i)
    where
      go : Dec (s.base.time ≡ i) → B i ⊎ (A i × Soon A B n (suc i))
      go (yes e) = inl (subst B e s.base.there)
      go (no z) =
          let l : i ≤ s.base.time = s.base.after in
          let q : s.base.time < i + suc n = s.soon in
          inr (
            s.base.before i (le_refl i) (omega arith),
            record { base = record { time = s.base.time; after = omega arith; there = s.base.there; before = λ k p q. s.base.before k (omega arith) q }; soon = omega arith },
          )

module _ (A B : ℕ → Type 0) (dec_a : (i : ℕ) → Dec (A i)) (dec_b : (i : ℕ) → Dec (B i)) where
  dec_soon : (n i : ℕ) → Dec (Soon A B n i)
  dec_soon zero i = no (λ s. let l : i ≤ s.base.time = s.base.after in let q : s.base.time < i + 0 = s.soon in omega arith)
  dec_soon (suc n) i = pick (dec_b i) (dec_a i) (dec_soon n (suc i))
    where
      pick : Dec (B i) → Dec (A i) → Dec (Soon A B n (suc i)) → Dec (Soon A B (suc n) i)
      pick (yes b) a s = yes (soon-now b)
      pick (no b) (yes a) (yes s) = yes (soon-later a s)
      pick (no b) (yes a) (no s) = no (λ t. elim (soon-split t) [ inl x ↦ b x | inr x ↦ s x.1 ])
      pick (no b) (no a) s = no (λ t. elim (soon-split t) [ inl x ↦ b x | inr x ↦ a x.0 ])

  -- B comes round again after p steps, from s on
  module _ (s p : ℕ) (pos : 0 < p) (back : (k : ℕ) → s ≤ k → B (k + p) → B k) where
    less : {i : ℕ} (u : Until A B i) → i + (s + p) ≤ u.time → (v : Until A B i) × (v.time ≡ u.time - p)
    less {i} u l =
        let e : u.time - p + p ≡ u.time = omega arith in
        (record { time = u.time - p; after = omega arith; there = back (u.time - p) (omega arith) (rw e u.there); before = λ k x y. u.before k x (omega arith) }, refl)

    reduce : (n : ℕ) {i : ℕ} (u : Until A B i) → u.time < i + (s + p) + n → Soon A B (s + p) i
    reduce zero u h = record { base = u; soon = omega arith }
    reduce (suc n) {i} u h = go (reduce n {i = i}) (dec_le (i + (s + p)) u.time)
      where
        go : ((v : Until A B i) → v.time < i + (s + p) + n → Soon A B (s + p) i) → Dec (i + (s + p) ≤ u.time) → Soon A B (s + p) i
        go f (yes l) = let v = less u l in f v.0 (let e : v.0.time ≡ u.time - p = v.1 in omega arith)
        go f (no l) = record { base = u; soon = omega arith }

    dec_until : (i : ℕ) → Dec (Until A B i)
    dec_until i = go (dec_soon (s + p) i)
      where
        go : Dec (Soon A B (s + p) i) → Dec (Until A B i)
        go (yes x) = yes x.base
        go (no x) = no (λ u. x (reduce u.time u (omega (arith, pos))))

dec_not : {P : Type 0} → Dec P → Dec (¬ P)
dec_not (yes x) = no (λ f. f x)
dec_not (no x) = yes x

dec_pair : {P Q : Type 0} → Dec P → Dec Q → Dec (P × Q)
dec_pair (yes x) (yes y) = yes (x, y)
dec_pair (yes x) (no y) = no (λ t. y t.1)
dec_pair (no x) q = no (λ t. x t.0)

dec_sum : {P Q : Type 0} → Dec P → Dec Q → Dec (P ⊎ Q)
dec_sum (yes x) q = yes (inl x)
dec_sum (no x) (yes y) = yes (inr y)
dec_sum (no x) (no y) = no (λ t. elim t [ inl a ↦ x a | inr b ↦ y b ])

dec_fun : {P Q : Type 0} → Dec P → Dec Q → Dec (P → Q)
dec_fun p (yes y) = yes (λ _. y)
dec_fun (yes x) (no y) = no (λ f. y (f x))
dec_fun (no x) (no y) = yes (λ p. absurd (x p))

pub dec_holds : (ρ : Lasso) (f : Formula) (i : ℕ) → Dec (Holds ρ i f)
dec_holds ρ falsum i = no (λ x. x)
dec_holds ρ verum i = yes tt
dec_holds ρ (signal s) i = ℕ_discrete (bit s (at ρ i)) 1
dec_holds ρ (at_least m n u) i = dec_pair (dec_le n (count_on 4 m (at ρ i))) (dec_le (count_on 4 m (at ρ i)) u)
dec_holds ρ (neg a) i = dec_not (dec_holds ρ a i)
dec_holds ρ (and a b) i = dec_pair (dec_holds ρ a i) (dec_holds ρ b i)
dec_holds ρ (or a b) i = dec_sum (dec_holds ρ a i) (dec_holds ρ b i)
dec_holds ρ (implies a b) i = dec_fun (dec_holds ρ a i) (dec_holds ρ b i)
dec_holds ρ (iff a b) i = dec_pair (dec_fun (dec_holds ρ a i) (dec_holds ρ b i)) (dec_fun (dec_holds ρ b i) (dec_holds ρ a i))
dec_holds ρ (xor a b) i = dec_sum (dec_pair (dec_holds ρ a i) (dec_not (dec_holds ρ b i))) (dec_pair (dec_not (dec_holds ρ a i)) (dec_holds ρ b i))
dec_holds ρ (next a) i = dec_holds ρ a (suc i)
dec_holds ρ (until a b) i =
    dec_until (Sat (at ρ) a) (Sat (at ρ) b) (dec_holds ρ a) (dec_holds ρ b) (length ρ.stem) (length ρ.loop) ρ.non_empty
    (λ k h. (holds-period ρ k b h).0) i
dec_holds ρ (eventually a) i =
    dec_until (λ _. Unit {0}) (Sat (at ρ) a) (λ _. yes tt) (dec_holds ρ a) (length ρ.stem) (length ρ.loop) ρ.non_empty
    (λ k h. (holds-period ρ k a h).0) i
dec_holds ρ (always a) i =
    dec_not (dec_until (λ _. Unit {0}) (λ k. ¬ Sat (at ρ) a k) (λ _. yes tt) (λ k. dec_not (dec_holds ρ a k)) (length ρ.stem) (length ρ.loop) ρ.non_empty
    (λ k h n t. n ((holds-period ρ k a h).1 t)) i)
