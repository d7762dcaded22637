-- The pass over two recordings: the checks that were passed, and the set of the states that completions have reached. The table is t, over P signals and
-- with S states.
use Rattle.std.specs.Prelude.{◌≡◌, List, map, Bool, true, false, cond, ℕ, ◌/◌, ◌≤◌, length, T}
use Rattle.sequences.specs.Tabulate.{every, joined}
use Rattle.meaning.specs.Traces.{Event}
use Rattle.meaning.specs.Monitors.{follow}
use Rattle.meaning.specs.RuleFiles.{first_of}
use Rattle.meaning.specs.TableFiles.{alphabet_in, monitor_in}
use Rattle.meaning.specs.Runs.{on_table}
use Rattle.meaning.specs.Recordings.{agrees, Completion, completions, joined_list, verdict_over, event_checks}
use Rattle.meaning.specs.declared.Verdict.TheVariants.{Undecided, Satisfied, Violated, Moot}
use Rattle.meaning.specs.declared.Refusal.{Refusal}
use Rattle.meaning.specs.declared.Refusal.TheVariants.{WrongTable}
use Rattle.meaning.specs.declared.Seen.{Seen}
use Rattle.state_sets.specs.Sets.{Has, Among, Moved, all_show}
use Rattle.std.specs.Prelude.{Result, Ok, Err}
use Rattle.meaning.specs.declared.Verdict.{Verdict}

-- no check of the list refuses; and the first that does refuses by x
pub record Cleared (cs : List (Bool × Refusal)) : Type 0 where
  pub is : (z : Result Verdict Refusal) → first_of Err cs z ≡ z

pub record Fault (cs : List (Bool × Refusal)) (x : Refusal) : Type 0 where
  pub is : (z : Result Verdict Refusal) → first_of Err cs z ≡ Err x

-- The set moves by the events that complete a recorded one, of which there are some.
pub record Steps (t : List ℕ) (P S : ℕ) (r : Seen) (old new : List Bool) (ok : Bool) : Type 0 where
  pub count : ℕ
  pub events : List ℕ
  pub some : 1 ≤ count
  pub chosen : (e : ℕ) → Among count events e → Event (alphabet_in t P) e × T (agrees P r e)
  pub all : (e : ℕ) → Event (alphabet_in t P) e → T (agrees P r e) → Among count events e
  pub moved : Moved t P S count events S old new ok

-- The set has exactly the states in which the completions of the recorded events rs end, while none has left the table; or one has left it.
pub record Reached (t : List ℕ) (P S : ℕ) (rs : List Seen) (inside : Bool) (set : List Bool) : Type 0 where
  pub long : length set ≡ 256
  pub reached : inside ≡ true → (s : ℕ) → Has set s → (w : List ℕ) × Completion (alphabet_in t P) P rs w × (follow (monitor_in t P S) 0 w ≡ s)
  pub marked : inside ≡ true → (w : List ℕ) → Completion (alphabet_in t P) P rs w → (on_table t P S 0 w ≡ true) × Has set (follow (monitor_in t P S) 0 w)
  pub left : inside ≡ false → (w : List ℕ) × Completion (alphabet_in t P) P rs w × (on_table t P S 0 w ≡ false)

-- what is answered of the set at the end
abbrev pub concluded : List ℕ → ℕ → ℕ → List Bool → Bool → Result Verdict Refusal
concluded t P S set inside =
    cond inside
    (Ok (cond (all_show t P S set 1) Satisfied (cond (all_show t P S set 2) Violated (cond (all_show t P S set 3) Moot Undecided))))
    (Err WrongTable)

-- what is answered after the lengths
unfoldable pub events_judged : List ℕ → ℕ → ℕ → List ℕ → List ℕ → Result Verdict Refusal
events_judged t P S a b =
    let ws = completions (alphabet_in t P) P (joined_list a b) in
    first_of Err (joined (length a / 2) (event_checks (alphabet_in t P) P a b))
    (cond (every (map (on_table t P S 0) ws)) (Ok (verdict_over (monitor_in t P S) ws)) (Err WrongTable))
