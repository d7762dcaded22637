-- Steps of an opening, one after another.
use Rattle.std.specs.Prelude.{List, [], ◌∷◌, cond, ℕ, eqb}
use Rattle.meaning.specs.Runs.{counts_fit}
use Rattle.meaning.specs.Openings.{run_from_in}
use Rattle.meaning.specs.declared.Refusal.TheVariants.{WrongTable, WrongOpening}
use Rattle.meaning.specs.declared.State.{State}
use Rattle.std.specs.Prelude.{Result, Ok, Err}
use Rattle.meaning.specs.declared.Arrival.{Arrival}
use Rattle.meaning.specs.declared.Refusal.{Refusal}

-- the number in the table of a state of opening n, and how one of another is refused: 14 before 24
abbrev pub number_in : ℕ → List ℕ → ℕ → ℕ → State → Result ℕ Refusal
number_in n t P S s = cond (eqb s.opening n) (Ok s.number) (cond (counts_fit t P S) (Err (WrongOpening 0)) (Err WrongTable))

-- where an answer leaves the state: where it arrived, or as it was where it was refused
abbrev pub state_after : Result (Arrival State) Refusal → State → State
state_after (Ok a) s = a.state
state_after (Err x) s = s

-- "A checked table is opened once and stepped many times": one step for each event
unfoldable pub stepped_in : ℕ → List ℕ → ℕ → ℕ → State → List ℕ → State
stepped_in n t P S s [] = s
stepped_in n t P S s (e ∷ es) = stepped_in n t P S (state_after (run_from_in n t P S s (e ∷ [])) s) es
