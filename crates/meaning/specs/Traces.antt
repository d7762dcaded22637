-- Events, finite lists of them, and traces that go on for ever.
use Rattle.std.specs.Prelude.{List, [], ◌∷◌, ◌++◌, Bool, ◌&&◌, ℕ, zero, suc, ◌-◌, ◌%◌, ◌^◌, ◌<◌, length, get_or, T, ltb, eqb}
use Rattle.meaning.specs.Bytes.{bit}

-- "An event is one byte below 2^P." Which events can happen is a parameter of all that follows: those below `width` that `possible` admits.
pub record Alphabet : Type 0 where
  pub width : ℕ
  pub possible : ℕ → Bool

-- the events below w that are in the mask m: "bit e set means that event e can happen" (document 02, C-14)
abbrev pub masked : ℕ → ℕ → Alphabet
masked w m = record { width = w; possible = λ e. eqb (bit e m) 1 }

-- all events over P signals, as a mask: "Without it all can."
abbrev pub full_mask : ℕ → ℕ
full_mask P = 2 ^ 2 ^ P - 1

abbrev pub over : ℕ → Alphabet
over P = masked (2 ^ P) (full_mask P)

-- e can happen
abbrev pub Event : Alphabet → ℕ → Type 0
Event Σ e = (e < Σ.width) × T (Σ.possible e)

-- the same as a test
abbrev pub is_event : Alphabet → ℕ → Bool
is_event Σ e = ltb e Σ.width && Σ.possible e

-- "a finite list of events", each of which can happen
abbrev pub Word : Alphabet → List ℕ → Type 0
Word Σ [] = Unit {0}
Word Σ (e ∷ w) = Event Σ e × Word Σ w

-- "A trace is a finite list of events (the stem) followed by a non-empty list repeated for ever (the loop)."
pub record Lasso : Type 0 where
  pub stem : List ℕ
  pub loop : List ℕ
  pub non_empty : 0 < length loop

-- the event at a position: in the stem, and then in the loop, round and round
abbrev pub turn : List ℕ → List ℕ → ℕ → ℕ
turn [] l i = get_or l (i % length l) 0
turn (e ∷ s) l zero = e
turn (e ∷ s) l (suc i) = turn s l i

abbrev pub at : Lasso → ℕ → ℕ
at ρ i = turn ρ.stem ρ.loop i

-- a finite list put before a trace
abbrev pub prepend : List ℕ → Lasso → Lasso
prepend w ρ = record { stem = w ++ ρ.stem; loop = ρ.loop; non_empty = ρ.non_empty }

-- "A continuation is such a trace", of events that can happen.
abbrev pub Continuation : Alphabet → Lasso → Type 0
Continuation Σ ρ = (i : ℕ) → Event Σ (at ρ i)
