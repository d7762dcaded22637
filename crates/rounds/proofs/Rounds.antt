-- Going round a row.
--     Apart          how many numbers are passed from one to another
--     apart_some     any two are so
--     after-apart    the number after as many is the other
--     after_is       and the number after k is k apart
--     nearer         from a number that is passed on the way, the way is shorter
use mathlib.Core.Path.{◌≡◌, refl, sym, ap, ◌∙◌}
use mathlib.Core.Logic.{◌⊎◌, inl, inr}
use mathlib.Core.Bool.{Bool, true, false, cond}
use Prim.Native.Nat.{ℕ, ◌+◌, ◌-◌, ◌%◌, ◌≤◌, ◌<◌}
use native.Mathlib.Nat.{mod-lt, mod-eq_of_lt, add-mod_right}
use native.Mathlib.Decide.{dec_lt}
use native.Mathlib.Omega.{arith}
use borrow.Author.Tests.{lt-ltb, ltb-true}
use lib.Dec.{ltb}
use Rattle.meaning.specs.Desks.{last_of, after}

-- going round a row of n from a, the number i comes after r others
pub record Apart (n a i r : ℕ) : Type 0 where
  pub short : r < n
  pub way : (a + 1 + r ≡ i) ⊎ (a + 1 + r ≡ i + n)

module _ (n : ℕ) where
  pub apart_some : (a i : ℕ) → a < n → i < n → (r : ℕ) × Apart n a i r
  apart_some a i h l = go (dec_lt a i)
    where
      go : Dec (a < i) → (r : ℕ) × Apart n a i r
      go (yes q) = (i - a - 1, record { short = omega arith; way = inl (omega arith) })
      go (no q) = (i + n - a - 1, record { short = omega arith; way = inr (omega arith) })

  -- a remainder, of less than twice the divisor
  rest-is : (x : ℕ) → x < n + n → (x ≡ x % n) ⊎ (x ≡ x % n + n)
  rest-is x h = go (dec_lt x n)
    where
      go : Dec (x < n) → (x ≡ x % n) ⊎ (x ≡ x % n + n)
      go (yes q) = inl (sym (mod-eq_of_lt q))
      go (no q) =
          let y : x ≡ x - n + n = omega arith in
          let z : x % n ≡ x - n = ap (λ (k : ℕ). k % n) y ∙ add-mod_right (x - n) n ∙ mod-eq_of_lt (omega arith) in
          inr (omega arith)

  -- j comes before i on the way round from a
  pub nearer : (a j i k r : ℕ) → Apart n a j k → Apart n a i r → j < n → i < n → k ≤ r → (j ≡ i → ⊥) → (r' : ℕ) × (r' < r) × Apart n j i r'
  nearer a j i k r p q lj li h ne = go p.way q.way
    where
      short : r - k - 1 < n
      short = omega (arith, q.short)

      go : (a + 1 + k ≡ j) ⊎ (a + 1 + k ≡ j + n) → (a + 1 + r ≡ i) ⊎ (a + 1 + r ≡ i + n) → (r' : ℕ) × (r' < r) × Apart n j i r'
      go (inl x) (inl y) = (r - k - 1, omega arith, record { short = short; way = inl (omega arith) })
      go (inl x) (inr y) = (r - k - 1, omega arith, record { short = short; way = inr (omega arith) })
      go (inr x) (inl y) = absurd (omega arith)
      go (inr x) (inr y) = (r - k - 1, omega arith, record { short = short; way = inl (omega arith) })

  module _ (some : 1 ≤ n) (l : ℕ) where
    pub last-in : last_of n l < n
    last-in = go (ltb l n) refl
      where
        go : (b : Bool) → ltb l n ≡ b → cond b l (n - 1) < n
        go true q = ltb-true l n q
        go false q = omega arith

    pub after-in : (k : ℕ) → after n l k < n
    after-in k = mod-lt (last_of n l + 1 + k) some

    pub after_is : (k : ℕ) → k < n → Apart n (last_of n l) (after n l k) k
    after_is k h = record { short = h; way = rest-is (last_of n l + 1 + k) (omega (arith, last-in)) }

    pub after-apart : (i r : ℕ) → i < n → Apart n (last_of n l) i r → after n l r ≡ i
    after-apart i r h p = go p.way
      where
        go : (last_of n l + 1 + r ≡ i) ⊎ (last_of n l + 1 + r ≡ i + n) → after n l r ≡ i
        go (inl q) = ap (λ (k : ℕ). k % n) q ∙ mod-eq_of_lt h
        go (inr q) = ap (λ (k : ℕ). k % n) q ∙ add-mod_right i n ∙ mod-eq_of_lt h

  -- a number of the row counts as it is
  pub last-own : (j : ℕ) → j < n → last_of n j ≡ j
  last-own j h = rw (lt-ltb j n h)
