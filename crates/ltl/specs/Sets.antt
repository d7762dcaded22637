-- Numbers as finite sets: i is in A if bit i of A is 1. Sets, tests and unions over the numbers below a bound, and over the events that can happen.
use Rattle.std.specs.Prelude.{Bool, true, false, ℕ, zero, suc, ◌+◌, ◌^◌, eqb}
use Rattle.std.specs.Int.Bits.{bit_or}
use Rattle.meaning.specs.Traces.{Alphabet}
use Rattle.meaning.specs.Bytes.{bit}

-- i is in A
abbrev pub on : ℕ → ℕ → Bool
on A i = eqb (bit i A) 1

-- the set A of numbers below k, with k added where b holds
abbrev pub put : ℕ → Bool → ℕ → ℕ
put k true A = A + 2 ^ k
put k false A = A

-- the numbers below n that pass the test f
abbrev pub set_below : ℕ → (ℕ → Bool) → ℕ
set_below zero f = 0
set_below (suc n) f = put n (f n) (set_below n f)

-- some number below n passes the test f
abbrev pub some_below : ℕ → (ℕ → Bool) → Bool
some_below zero f = false
some_below (suc n) f = elim (f n) [ true ↦ true | false ↦ some_below n f ]

-- every number below n passes the test f
abbrev pub every_below : ℕ → (ℕ → Bool) → Bool
every_below zero f = true
every_below (suc n) f = elim (f n) [ true ↦ every_below n f | false ↦ false ]

-- the union of f 0, f 1, .., f (n - 1)
abbrev pub union_below : ℕ → (ℕ → ℕ) → ℕ
union_below zero f = 0
union_below (suc n) f = bit_or (f n) (union_below n f)

module _ (Σ : Alphabet) where
  -- some event that can happen passes the test f
  abbrev pub some_event : (ℕ → Bool) → Bool
  some_event f = some_below Σ.width (λ e. elim (Σ.possible e) [ true ↦ f e | false ↦ false ])

  -- the union of f e over the events e that can happen
  abbrev pub union_events : (ℕ → ℕ) → ℕ
  union_events f = union_below Σ.width (λ e. elim (Σ.possible e) [ true ↦ f e | false ↦ 0 ])
