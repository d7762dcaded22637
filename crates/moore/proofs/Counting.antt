-- Counting the numbers that pass a test, and listing them in ascending order: each stands where its count says.
use mathlib.Core.Path.{◌≡◌, refl, sym, ap, ◌∙◌, subst}
use mathlib.Core.Bool.{Bool, true, false, cond}
use mathlib.Core.List.{List, [], ◌∷◌, ◌++◌}
use Prim.Native.Nat.{ℕ, zero, suc, ◌+◌, ◌≤◌, ◌<◌}
use native.Mathlib.Nat.{le_refl, le_step, le_trans, not-suc-le-zero}
use native.Mathlib.Decide.{ℕ_discrete, dec_lt, le_ind}
use native.Mathlib.Omega.{arith}
use lib.ListN.{length, get_or, length-append, get_or-append}
use lib.Seq.{get_or_at}
use Rattle.sequences.specs.Tabulate.{up_to}
use Rattle.sequences.proofs.Loops.{tabulate-snoc}
use Rattle.meaning.specs.Monitors.{keep}
use Rattle.moore.specs.Counting.{count_below}
use Rattle.moore.proofs.Tests.{clash}

pub count-le : (n : ℕ) (p : ℕ → Bool) → count_below n p ≤ n
count-le zero p = le_refl 0
count-le (suc n) p = go (p n) (count-le n p)
  where
    go : (b : Bool) {r : ℕ} → r ≤ n → cond b (suc r) r ≤ suc n
    go true h = omega arith
    go false h = omega arith

pub count-some : (n : ℕ) (p : ℕ → Bool) (i : ℕ) → i < n → p i ≡ true → 0 < count_below n p
count-some zero p i l h = absurd (not-suc-le-zero l)
count-some (suc n) p i l h = go (p n) refl (ℕ_discrete i n) (count-some n p i)
  where
    go : (b : Bool) → p n ≡ b → Dec (i ≡ n) → {r : ℕ} → (i < n → p i ≡ true → 0 < r) → 0 < cond b (suc r) r
    go true e d r = omega arith
    go false e (yes q) r = absurd (clash (ap p (sym q) ∙ h) e)
    go false e (no q) r = r (omega arith) h

-- q passes all that p passes: it counts as many at least, and as many only if p passes all that q passes
pub record More (n : ℕ) (p q : ℕ → Bool) (a b : ℕ) : Type 0 where
  pub le : a ≤ b
  pub equal : a ≡ b → (i : ℕ) → i < n → q i ≡ true → p i ≡ true

pub count-more : (n : ℕ) (p q : ℕ → Bool) → ((i : ℕ) → i < n → p i ≡ true → q i ≡ true) → More n p q (count_below n p) (count_below n q)
count-more zero p q h = record { le = le_refl 0; equal = λ e i l. absurd (not-suc-le-zero l) }
count-more (suc n) p q h = go (p n) (q n) refl refl (count-more n p q (λ i l. h i (omega arith)))
  where
    last : (b : Bool) → p n ≡ b → (q n ≡ true → b ≡ true) → ((i : ℕ) → i < n → q i ≡ true → p i ≡ true) → (i : ℕ) → i < suc n → q i ≡ true → p i ≡ true
    last b e k r i l t = pick (ℕ_discrete i n)
      where
        pick : Dec (i ≡ n) → p i ≡ true
        pick (yes x) = ap p x ∙ e ∙ k (ap q (sym x) ∙ t)
        pick (no x) = r i (omega arith) t

    go : (a b : Bool) → p n ≡ a → q n ≡ b → {x y : ℕ} → More n p q x y → More (suc n) p q (cond a (suc x) x) (cond b (suc y) y)
    go true true e f r = record { le = omega arith; equal = λ k. last true e (λ t. refl) (r.equal (omega arith)) }
    go true false e f r = absurd (clash (h n (le_refl (suc n)) e) f)
    go false true e f r = record { le = omega arith; equal = λ k. absurd (omega arith) }
    go false false e f r = record { le = r.le; equal = λ k. last false e (λ t. sym f ∙ t) (r.equal k) }

count-suc : (j : ℕ) (p : ℕ → Bool) → count_below j p ≤ count_below (suc j) p
count-suc j p = go (p j)
  where
    go : (b : Bool) → count_below j p ≤ cond b (suc (count_below j p)) (count_below j p)
    go true = omega arith
    go false = omega arith

pub count-mono : (i j : ℕ) (p : ℕ → Bool) → i ≤ j → count_below i p ≤ count_below j p
count-mono i j p h = le_ind (λ (k : ℕ). count_below i p ≤ count_below k p) (le_refl (count_below i p)) (λ k l r. le_trans r (count-suc k p)) j h

-- one that passes is not counted before itself
pub count-lt : (i j : ℕ) (p : ℕ → Bool) → i < j → p i ≡ true → count_below i p < count_below j p
count-lt i j p h t = subst (λ (b : Bool). cond b (suc (count_below i p)) (count_below i p) ≤ count_below j p) t (count-mono (suc i) j p h)

pub count-one : (i j : ℕ) (p : ℕ → Bool) → p i ≡ true → p j ≡ true → count_below i p ≡ count_below j p → i ≡ j
count-one i j p h l e = go (dec_lt i j) (dec_lt j i)
  where
    go : Dec (i < j) → Dec (j < i) → i ≡ j
    go (yes a) b = absurd (omega (arith, count-lt i j p a h))
    go (no a) (yes b) = absurd (omega (arith, count-lt j i p b l))
    go (no a) (no b) = omega arith

keep_append : (p : ℕ → Bool) (l l' : List ℕ) → keep p (l ++ l') ≡ keep p l ++ keep p l'
keep_append p [] l' = refl
keep_append p (a ∷ l) l' = go (p a) (keep_append p l l')
  where
    go : (b : Bool) → keep p (l ++ l') ≡ keep p l ++ keep p l' → cond b (a ∷ keep p (l ++ l')) (keep p (l ++ l')) ≡ cond b (a ∷ keep p l) (keep p l) ++ keep p l'
    go true r = ap (λ (x : List ℕ). a ∷ x) r
    go false r = r

-- ---- the numbers below n that pass
passing-suc : (n : ℕ) (p : ℕ → Bool) → keep p (up_to (suc n)) ≡ keep p (up_to n) ++ cond (p n) (n ∷ []) []
passing-suc n p = ap (keep p) (tabulate-snoc n (λ i. i)) ∙ keep_append p (up_to n) (n ∷ [])

-- j passes, and stands at q among those that do
pub record Standing (n : ℕ) (p : ℕ → Bool) (q j : ℕ) : Type 0 where
  pub below : j < n
  pub passes : p j ≡ true
  pub count : count_below j p ≡ q

pub passing-length : (n : ℕ) (p : ℕ → Bool) → length (keep p (up_to n)) ≡ count_below n p
passing-length zero p = refl
passing-length (suc n) p = ap length (passing-suc n p) ∙ length-append (keep p (up_to n)) (cond (p n) (n ∷ []) []) ∙ go (p n) (passing-length n p)
  where
    go : (b : Bool) → length (keep p (up_to n)) ≡ count_below n p → length (keep p (up_to n)) + length (cond b (n ∷ []) []) ≡ cond b (suc (count_below n p)) (count_below n p)
    go true e = omega arith
    go false e = omega arith

pub standing : (n : ℕ) (p : ℕ → Bool) (q : ℕ) → q < count_below n p → Standing n p q (get_or (keep p (up_to n)) q 0)
standing zero p q h = absurd (not-suc-le-zero h)
standing (suc n) p q h = subst (λ (l : List ℕ). Standing (suc n) p q (get_or l q 0)) (sym (passing-suc n p)) (go (p n) refl h (dec_lt q (count_below n p)) (standing n p q))
  where
    up : {j : ℕ} → Standing n p q j → Standing (suc n) p q j
    up s = record { below = le_step s.below; passes = s.passes; count = s.count }

    go : (b : Bool) → p n ≡ b → q < cond b (suc (count_below n p)) (count_below n p) → Dec (q < count_below n p)
        → (q < count_below n p → Standing n p q (get_or (keep p (up_to n)) q 0)) → Standing (suc n) p q (get_or (keep p (up_to n) ++ cond b (n ∷ []) []) q 0)
    go b e m (yes l) r = subst (λ (j : ℕ). Standing (suc n) p q j) (sym (get_or-append (keep p (up_to n)) (cond b (n ∷ []) []) 0 q (rw passing-length l))) (up (r l))
    go true e m (no l) r =
        let a : count_below n p ≡ q = omega arith in
        subst (λ (j : ℕ). Standing (suc n) p q j) (sym (get_or_at (keep p (up_to n)) n [] 0 q (passing-length n p ∙ a))) (record { below = le_refl (suc n); passes = e; count = a })
    go false e m (no l) r = absurd (l m)
