-- Lists made by index, tests of every index below a bound, the least index that passes a test.
use Rattle.std.specs.Prelude.{List, [], ◌∷◌, ◌++◌, Bool, true, false, cond, ℕ, zero, suc}

module _ {A : Type 0} where
  -- f 0, f 1, .., f (n - 1)
  abbrev pub tabulate : ℕ → (ℕ → A) → List A
  tabulate zero f = []
  tabulate (suc n) f = let h = f zero in h ∷ tabulate n (λ i. f (suc i))

  -- f 0 ++ f 1 ++ .. ++ f (n - 1)
  abbrev pub joined : ℕ → (ℕ → List A) → List A
  joined zero f = []
  joined (suc n) f = joined n f ++ f n

-- 0, 1, .., n - 1
abbrev pub up_to : ℕ → List ℕ
up_to n = tabulate n (λ i. i)

-- every test of a list holds
abbrev pub every : List Bool → Bool
every [] = true
every (b ∷ bs) = cond b (every bs) false

-- p holds at each index below n
abbrev pub all_below : ℕ → (ℕ → Bool) → Bool
all_below zero p = true
all_below (suc n) p = let r = all_below n (λ i. p (suc i)) in cond (p zero) r false

-- the least index below n at which p holds, and n where there is none
abbrev pub least_below : ℕ → (ℕ → Bool) → ℕ
least_below zero p = zero
least_below (suc n) p = let r = suc (least_below n (λ i. p (suc i))) in cond (p zero) zero r
