-- The profiles of all continuations, marked event by event.
use Rattle.std.specs.Prelude.{◌≡◌, List, Bool, true, false, ℕ, ◌<◌, length, get_or, eqb}
use Rattle.meaning.specs.Traces.{Alphabet}
use Rattle.ltl.specs.Sets.{some_below, some_event}
use Rattle.ltl.specs.Keys.{look}

-- by the event e the label y, if some continuation has it, gives the profile p
abbrev pub hits : List (List ℕ) → List Bool → ℕ → ℕ → ℕ → Bool
hits profiles real e p y = elim (get_or real y false) [ true ↦ eqb (look profiles e y) p | false ↦ false ]

-- the profiles that a label below n hits, added to those marked before
pub record Marked (n : ℕ) (f : ℕ → ℕ → Bool) (old new : List Bool) : Type 0 where
  pub long : length new ≡ 256
  pub is : (p : ℕ) → p < 256 → get_or new p false ≡ elim (some_below n (f p)) [ true ↦ true | false ↦ get_or old p false ]

-- the profiles that some event that can happen and some of n labels hit
pub record AllMarked (Σ : Alphabet) (n : ℕ) (profiles : List (List ℕ)) (real whole : List Bool) : Type 0 where
  pub long : length whole ≡ 256
  pub is : (p : ℕ) → p < 256 → get_or whole p false ≡ some_event Σ (λ e. some_below n (hits profiles real e p))
