-- How many numbers below a bound pass a test.
use Rattle.std.specs.Prelude.{Bool, cond, ℕ, zero, suc}

abbrev pub count_below : ℕ → (ℕ → Bool) → ℕ
count_below zero p = 0
count_below (suc n) p = let r = count_below n p in cond (p n) (suc r) r
