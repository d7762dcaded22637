-- What holds at every number of a range: by its cases.
use mathlib.Core.Path.{◌≡◌, subst}
use mathlib.Core.Logic.{◌⊎◌, inl, inr}
use Prim.Native.Nat.{ℕ, zero, suc, ◌+◌, ◌≤◌, ◌<◌}
use native.Mathlib.Nat.{eq-or-lt_of_le}
use native.Mathlib.Omega.{arith}

-- P at n numbers, from lo on
abbrev pub Each : (ℕ → Type 0) → ℕ → ℕ → Type 0
Each P lo zero = Unit {0}
Each P lo (suc n) = P lo × Each P (suc lo) n

pub within : (P : ℕ → Type 0) (lo n : ℕ) → Each P lo n → (k : ℕ) → lo ≤ k → k < lo + n → P k
within P lo zero e k l u = absurd (omega arith)
within P lo (suc n) e k l u = go (eq-or-lt_of_le l) (within P (suc lo) n e.1 k)
  where
    go : (lo ≡ k) ⊎ (lo < k) → (suc lo ≤ k → k < suc lo + n → P k) → P k
    go (inl q) ih = subst P q e.0
    go (inr q) ih = ih q (omega arith)
