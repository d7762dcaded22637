-- What hearing one event of two recordings says. The table is t, over P signals and with S states.
use Rattle.std.specs.Prelude.{Result, Ok, Err, ◌≡◌, List, Bool, ℕ, ◌≤◌, length}
use Rattle.meaning.specs.TableFiles.{alphabet_in}
use Rattle.meaning.specs.Recordings.{choices, joined_at, event_checks}
use Rattle.meaning.specs.declared.Refusal.TheVariants.{WrongEvent}
use Rattle.meaning.specs.declared.Seen.{Seen}
use Rattle.completions.specs.Passing.{Cleared, Fault, Steps}
use Rattle.meaning.specs.declared.Refusal.{Refusal}

-- what hearing a joined event with index i says
abbrev pub HearsJoined : List ℕ → ℕ → ℕ → Seen → ℕ → List Bool → List Bool → Result Bool Refusal → Type 0
HearsJoined t P S r i old new (Ok ok) = (1 ≤ length (choices (alphabet_in t P) P r)) × Steps t P S r old new ok
HearsJoined t P S r i old new (Err x) = (length (choices (alphabet_in t P) P r) ≡ 0) × (x ≡ WrongEvent i)

-- and what hearing the events of two recordings with index i says
abbrev pub Hears : List ℕ → ℕ → ℕ → List ℕ → List ℕ → ℕ → List Bool → List Bool → Result Bool Refusal → Type 0
Hears t P S a b i old new (Ok ok) = Cleared (event_checks (alphabet_in t P) P a b i) × Steps t P S (joined_at a b i) old new ok
Hears t P S a b i old new (Err x) = Fault (event_checks (alphabet_in t P) P a b i) x
