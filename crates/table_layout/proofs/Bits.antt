-- The bits of a number below 2^n to which 2^n is added.
use mathlib.Core.Path.{◌≡◌, ap, ◌∙◌}
use Prim.Native.Nat.{ℕ, suc, ◌+◌, ◌-◌, ◌*◌, ◌/◌, ◌%◌, ◌^◌, ◌<◌}
use native.Mathlib.Nat.{one-mul, pow-suc, add-mul-div_right, add-div_right, div-eq_of_lt}
use native.Mathlib.Omega.{arith}
use lib.Pow.{pow_pos, pow-add, shl_exact}
use Rattle.meaning.specs.Bytes.{bit}

-- the bit that is added, and those below it
pub bit-here : (n m : ℕ) → m < 2 ^ n → bit n (m + 2 ^ n) ≡ 1
bit-here n m l = ap (λ (q : ℕ). q % 2) (add-div_right m (pow_pos n) ∙ ap (λ (q : ℕ). q + 1) (div-eq_of_lt l))

bit_past : (k i m : ℕ) → bit i (m + 2 ^ (suc k + i)) ≡ bit i m
bit_past k i m =
    let q : (m + 2 ^ (suc k + i)) / 2 ^ i ≡ m / 2 ^ i + 2 ^ suc k = ap (λ (x : ℕ). (m + x) / 2 ^ i) (pow-add 2 (suc k) i) ∙ add-mul-div_right m (2 ^ suc k) (pow_pos i) in
    ap (λ (x : ℕ). x % 2) q ∙ even (m / 2 ^ i)
  where
    even : (x : ℕ) → (x + 2 ^ suc k) % 2 ≡ x % 2
    even x = omega (arith, pow-suc 2 k)

pub bit_below : (n m i : ℕ) → i < n → bit i (m + 2 ^ n) ≡ bit i m
bit_below n m i l =
    let e : n ≡ suc (n - suc i) + i = omega arith in
    ap (λ (x : ℕ). bit i (m + 2 ^ x)) e ∙ bit_past (n - suc i) i m

-- 1 shifted by n, in a word of 16 bits
pub shifted : (n : ℕ) → n < 16 → (1 * 2 ^ n) % 2 ^ 16 ≡ 2 ^ n
shifted n l = shl_exact {a = 1} 1 n 16 (omega arith) (omega arith) ∙ one-mul (2 ^ n)
