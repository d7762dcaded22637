-- Powers of 2 by shifting.
use mathlib.Core.Path.{◌≡◌, ◌∙◌}
use Prim.Native.Nat.{ℕ, ◌*◌, ◌%◌, ◌^◌, ◌≤◌, ◌<◌}
use native.Mathlib.Nat.{one-mul}
use native.Mathlib.Omega.{arith}
use lib.Pow.{pow_mono, shl_exact}

-- a shift of 1 within the word
pub shift_one : (k : ℕ) → k < 64 → (1 * 2 ^ k) % 2 ^ 64 ≡ 2 ^ k
shift_one k h = shl_exact {a = 1} 1 k 64 (omega arith) (omega arith) ∙ one-mul (2 ^ k)

-- and its bound
pub shift_small : (k n : ℕ) → k ≤ n → n < 64 → ((1 * 2 ^ k) % 2 ^ 64 ≡ 2 ^ k) × ((1 * 2 ^ k) % 2 ^ 64 ≤ 2 ^ n)
shift_small k n h l = let m : 2 ^ k ≤ 2 ^ n = pow_mono {i = k} {j = n} h in (shift_one k (omega arith), omega (arith, shift_one k (omega arith)))

pub power_small : (k n r m : ℕ) → r ≡ 2 ^ k → k ≤ n → 2 ^ n ≡ m → r ≤ m
power_small k n r m e h q = omega (arith, pow_mono {i = k} {j = n} h)
