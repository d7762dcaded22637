-- "Opening and running", of a table that is opened once.
use Rattle.std.specs.Prelude.{List, [], ◌∷◌, cond, ℕ, leb, Option, Some, None, Result, Ok, Err}
use Rattle.std.specs.Borrow.{Bor}
use Rattle.std.specs.Result.{result_ok}
use Rattle.meaning.specs.TableFiles.{checked_of}
use Rattle.meaning.specs.Runs.{row_in}
use Rattle.meaning.specs.Openings.{state_of, run_from_in}
use Rattle.meaning.specs.Desks.{Outcome, refused, fresh_in, post_in, turn_in}
use Rattle.meaning.specs.Recordings.{judged_in}
use Rattle.meaning.specs.declared.Arrival.{Arrival}
use Rattle.meaning.specs.declared.Counts.{Counts}
use Rattle.meaning.specs.declared.Refusal.{Refusal}
use Rattle.meaning.specs.declared.Refusal.TheVariants.{WrongTable}
use Rattle.meaning.specs.declared.State.{State}
use Rattle.meaning.specs.declared.StateRow.{StateRow}
use Rattle.meaning.specs.declared.Verdict.{Verdict}
use Rattle.meaning.specs.declared.Watch.{Watch}
use Rattle.openings.specs.Steps.{stepped_in}
use Rattle.opened.specs.declared.Opened.{Opened}

-- "A checked table is opened once and stepped many times from the caller's own bytes." "Opening checks the bytes and
-- refuses by 14": the counts that checking found, and none where it refused. Document 02, C-18: "Opening now takes a
-- 16-bit number of the caller's choice."
abbrev pub opened_of : Bor (List ℕ) → ℕ → Opened
opened_of x n = record { bytes = x; found = result_ok (checked_of x.now); number = n }

-- what is done with the counts, and what where opening refused, which was by 14
abbrev pub by_counts : {A : Type 0} → Option Counts → (Refusal → A) → (Counts → A) → A
by_counts (Some c) refuse f = f c
by_counts None refuse f = refuse WrongTable

-- what checking found, from its counts: "S (two bytes), the number of states, 1 to 256"
abbrev pub outcome_in : Counts → Result Counts Refusal
outcome_in c = cond (leb 1 c.states) (Ok c) (Err WrongTable)

abbrev pub outcome_by : Opened → Result Counts Refusal
outcome_by t = by_counts t.found Err outcome_in

-- the counts as two numbers, 0 and 0 where opening refused, which no table has
abbrev pub counts_of : Option Counts → Counts
counts_of (Some c) = c
counts_of None = record { signals = 0; states = 0 }

-- "a start", which carries the opening's number
abbrev pub start_by : Opened → State
start_by t = state_of t.number 0

-- "A run takes an opened table, a state and a list of events."
abbrev pub ran_by : Opened → State → List ℕ → Result (Arrival State) Refusal
ran_by t s es = by_counts t.found Err (λ c. run_from_in t.number t.bytes.now c.signals c.states s es)

-- a step is a run over one event
abbrev pub stepped_by : Opened → State → ℕ → Result (Arrival State) Refusal
stepped_by t s e = ran_by t s (e ∷ [])

-- a state's row: "thin functions read a row and step from it"
abbrev pub row_by : Opened → ℕ → Result StateRow Refusal
row_by t s = by_counts t.found Err (λ c. row_in t.bytes.now c.signals c.states s)

-- "A checked table is opened once and stepped many times": one step for each event
abbrev pub stepped_all : Opened → State → List ℕ → State
stepped_all t s es = by_counts t.found (λ x. s) (λ c. stepped_in t.number t.bytes.now c.signals c.states s es)

-- document 02, C-17: "Join two recordings, each filling the other's gaps, and run the table from state 0 over all
-- possible completions."
abbrev pub judged_by : Opened → List ℕ → List ℕ → Result Verdict Refusal
judged_by t a b = by_counts t.found Err (λ c. judged_in t.bytes.now c.signals c.states a b)

-- "A fresh desk", "made with C-15's one table"
abbrev pub freshened_by : Opened → List Watch → Outcome
freshened_by t d = by_counts t.found (refused d) (λ c. fresh_in t.number t.bytes.now c.signals c.states d)

-- "A site runs up to 64 tunnels on one table": a post and a turn over an opened table
abbrev pub posted_by : Opened → List Watch → ℕ → ℕ → Outcome
posted_by t d i e = by_counts t.found (refused d) (λ c. post_in t.number t.bytes.now c.signals c.states d i e)

abbrev pub turned_by : Opened → List Watch → ℕ → Outcome
turned_by t d l = by_counts t.found (refused d) (λ c. turn_in t.number t.bytes.now c.signals c.states d l)
