-- The ones of event and mask, counted, are the signals of the mask that are on, counted one by one.
use mathlib.Core.Path.{◌≡◌, refl, sym, ap, ap₂, ◌∙◌}
use mathlib.Core.Bool.{◌&&◌}
use Prim.Native.Nat.{ℕ, zero, suc, ◌+◌, ◌*◌, ◌/◌, ◌%◌, ◌^◌, ◌≤◌, ◌<◌}
use native.Mathlib.Nat.{mod-lt, mod-one, div-eq_of_lt}
use native.Mathlib.Numerals.{one-add}
use native.Mathlib.Omega.{arith}
use borrow.Author.Tests.{le-leb, lt-leb}
use lib.Dec.{lit<, leb}
use lib.Pow.{pow_pos, pow_mono, mod-pow-add}
use lib.Bits.{bit_and, and_mod, and_shr, and_mask}
use lib.Count.{ones, ones_cat}
use Rattle.meaning.specs.Bytes.{bit}
use Rattle.meaning.specs.Formulas.{count_on}

digit_and : (a b : ℕ) → a < 2 → b < 2 → bit_and a b ≡ b * a
digit_and zero zero p q = refl
digit_and zero (suc zero) p q = refl
digit_and (suc zero) zero p q = refl
digit_and (suc zero) (suc zero) p q = refl
digit_and zero (suc (suc b)) p q = absurd (omega arith)
digit_and (suc zero) (suc (suc b)) p q = absurd (omega arith)
digit_and (suc (suc a)) b p q = absurd (omega arith)

digit_ones : (a : ℕ) → a < 2 → ones a ≡ a
unfolding ones
digit_ones zero p = refl
digit_ones (suc zero) p = refl
digit_ones (suc (suc a)) p = absurd (omega arith)

module _ (e m : ℕ) where
  bit-and : (s : ℕ) → bit_and e m / 2 ^ s % 2 ≡ bit s m * bit s e
  bit-and s =
      ap (λ (x : ℕ). x % 2) (and_shr e m s) ∙ and_mod (e / 2 ^ s) (m / 2 ^ s) 1
      ∙ digit_and (bit s e) (bit s m) (mod-lt (e / 2 ^ s) (lit< tt)) (mod-lt (m / 2 ^ s) (lit< tt))

  ones_below : (n : ℕ) → ones (bit_and e m % 2 ^ n) ≡ count_on n m e
  unfolding ones
  ones_below zero = ap ones (mod-one (bit_and e m))
  ones_below (suc s) =
      let x = bit_and e m in
      ap (λ (k : ℕ). ones (x % 2 ^ k)) (sym (one-add s)) ∙ ap ones (mod-pow-add x 1 s)
      ∙ ones_cat s (x / 2 ^ s % 2) (x % 2 ^ s) (mod-lt x (pow_pos s))
      ∙ ap₂ (λ (a b : ℕ). a + b) (digit_ones (x / 2 ^ s % 2) (mod-lt (x / 2 ^ s) (lit< tt)) ∙ bit-and s) (ones_below s)

  -- of the four signals that there can be
  pub ones-four : ones (bit_and (bit_and e m) 15) ≡ count_on 4 m e
  ones-four = ap ones (and_mask (bit_and e m) 4) ∙ ones_below 4

-- a number of signals compared with both bounds, by the number n of ones that is counted for it
module _ (n c k u : ℕ) (q : n ≡ c) where
  pub at-least-so-many : k ≤ n → leb n u ≡ (leb k c && leb c u)
  at-least-so-many h = rw (q, le-leb k c (omega arith))

  pub too_few : n < k → leb k n ≡ (leb k c && leb c u)
  too_few h = rw (q, lt-leb k c (omega arith))

-- a number of n bits has none past them: a byte no signal past the eighth, a mask no event past the sixteenth
pub off-above : (n e s : ℕ) → e < 2 ^ n → n ≤ s → bit s e ≡ 0
off-above n e s p q = ap (λ (x : ℕ). x % 2) (div-eq_of_lt (omega (arith, p, pow_mono {i = n} {j = s} q)))
