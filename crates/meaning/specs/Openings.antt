-- Document 02, C-18: "States from the wrong table".
use Rattle.std.specs.Prelude.{List, cond, ℕ, eqb}
use Rattle.meaning.specs.TableFiles.{is_table}
use Rattle.meaning.specs.Runs.{run_of, ran_in, counts_fit}
use Rattle.meaning.specs.declared.Refusal.TheVariants.{WrongTable, WrongOpening}
use Rattle.meaning.specs.declared.State.{State}
use Rattle.std.specs.Prelude.{Result, Ok, Err}
use Rattle.meaning.specs.declared.Arrival.{Arrival}
use Rattle.meaning.specs.declared.Refusal.{Refusal}

-- "Opening now takes a 16-bit number of the caller's choice": the bytes that were opened, and the number.
pub record Opening : Type 0 where
  pub table : List ℕ
  pub number : ℕ

-- the bytes t opened with the number n
abbrev pub opening : List ℕ → ℕ → Opening
opening t n = record { table = t; number = n }

-- "States .. carry it": state s of a table whose opening has the number n
abbrev pub state_of : ℕ → ℕ → State
state_of n s = record { opening = n; number = s }

-- the start of an opening; document 01: "State 0 is the start."
abbrev pub start_of : Opening → State
start_of o = state_of o.number 0

-- where a run arrives, with the number carried along
abbrev pub carried : ℕ → Result (Arrival ℕ) Refusal → Result (Arrival State) Refusal
carried n (Ok a) = Ok (record { state = state_of n a.state; verdict = a.verdict; decided = a.decided })
carried n (Err x) = Err x

-- "a run .. with another number is refused": by 24, and otherwise it is the run of the table from the state's own number, which is given
abbrev pub own_run : ℕ → State → Result (Arrival ℕ) Refusal → Result (Arrival State) Refusal
own_run n s r = cond (eqb s.opening n) (carried n r) (Err (WrongOpening 0))

-- "A run takes an opened table, a state and a list of events": 14, then 24, then 13 and 12
abbrev pub run_from : Opening → State → List ℕ → Result (Arrival State) Refusal
run_from o s es = cond (is_table o.table) (own_run o.number s (run_of o.table s.number es)) (Err WrongTable)

-- the same from the opening's number and bytes and counts in hand: 14 for counts and length, 24, 13, 12, and 14 where the way leaves the table
abbrev pub run_from_in : ℕ → List ℕ → ℕ → ℕ → State → List ℕ → Result (Arrival State) Refusal
run_from_in n t P S s es = cond (counts_fit t P S) (own_run n s (ran_in t P S s.number es)) (Err WrongTable)
