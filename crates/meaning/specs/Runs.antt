-- "Opening and running".
use Rattle.std.specs.Prelude.{List, [], ◌∷◌, ◌++◌, Bool, true, false, cond, not, ◌&&◌, ℕ, suc, ◌^◌, length, get_or, drop, replicate, ltb, leb}
use Rattle.sequences.specs.Tabulate.{every, least_below, tabulate}
use Rattle.meaning.specs.Traces.{Alphabet, is_event}
use Rattle.meaning.specs.Monitors.{Monitor, follow}
use Rattle.meaning.specs.TableFiles.{is_table, alphabet_in, signals_in, states_in, verdict_byte, successor, content_tests, counts_tests, verdict_of, monitor_in, monitor_of}
use Rattle.meaning.specs.declared.Verdict.{Verdict}
use Rattle.meaning.specs.declared.Verdict.TheVariants.{Undecided, Satisfied, Violated, Moot}
use Rattle.meaning.specs.declared.Refusal.{Refusal}
use Rattle.meaning.specs.declared.Refusal.TheVariants.{WrongEvent, WrongState, WrongTable}
use Rattle.meaning.specs.declared.StateRow.{StateRow}
use Rattle.std.specs.Prelude.{Result, Ok, Err, Option, Some, None}
use Rattle.meaning.specs.declared.Arrival.{Arrival}

-- a verdict other than undecided
abbrev pub decides : Verdict → Bool
decides Undecided = false
decides Satisfied = true
decides Violated = true
decides Moot = true

-- "the count of events read when a verdict other than undecided was first shown: 0 if the given state shows one, 'none' if never", where n were read already
unfoldable pub decided_from : Monitor → ℕ → ℕ → List ℕ → Option ℕ
decided_from m n s [] = cond (decides (m.verdict s)) (Some n) None
decided_from m n s (e ∷ es) = let later = decided_from m (suc n) (m.next s e) es in cond (decides (m.verdict s)) (Some n) later

-- the end state of m run from s over the events, its verdict, and the count
abbrev pub end_of : Monitor → ℕ → List ℕ → Result (Arrival ℕ) Refusal
end_of m s es = Ok (record { state = follow m s es; verdict = m.verdict (follow m s es); decided = decided_from m 0 s es })

-- the index of the first event that is none or cannot happen, and the length where all can. C-14: "Running such an event is refused by 12."
abbrev pub first_bad : Alphabet → List ℕ → ℕ
first_bad Σ es = least_below (length es) (λ i. not (is_event Σ (get_or es i 0)))

-- "A run checks 13 before 12"
abbrev pub ran_of : Monitor → Alphabet → ℕ → List ℕ → Result (Arrival ℕ) Refusal
ran_of m Σ s es =
    cond (ltb s m.states)
    (cond (ltb (first_bad Σ es) (length es)) (Err (WrongEvent (first_bad Σ es))) (end_of m s es))
    (Err WrongState)

-- "A run takes an opened table, a state and a list of events."
abbrev pub run_of : List ℕ → ℕ → List ℕ → Result (Arrival ℕ) Refusal
run_of t s es = cond (is_table t) (ran_of (monitor_of t) (alphabet_in t (signals_in t)) s es) (Err WrongTable)

-- ---- from bytes and counts in hand, as a step takes them: whatever they are, no answer but a refusal leaves the table

-- P and S are those of a table of as many bytes
abbrev pub counts_fit : List ℕ → ℕ → ℕ → Bool
counts_fit t P S = every (counts_tests t P S)

-- s is one of the S states, and its verdict byte one of the four
abbrev pub in_table : List ℕ → ℕ → ℕ → ℕ → Bool
in_table t P S s = ltb s S && leb (verdict_byte t P s) 3

-- and so is each state on the way from s over the events
unfoldable pub on_table : List ℕ → ℕ → ℕ → ℕ → List ℕ → Bool
on_table t P S s [] = in_table t P S s
on_table t P S s (e ∷ es) = in_table t P S s && on_table t P S (successor t P s e) es

-- an answer stands where the test holds, and a refusal always; otherwise 14
abbrev pub tested : Bool → Result (Arrival ℕ) Refusal → Result (Arrival ℕ) Refusal
tested ok (Ok a) = cond ok (Ok a) (Err WrongTable)
tested ok (Err x) = Err x

-- the run over the bytes t as a table of S states over P signals: 14 for counts and length, 13, 12, and 14 where the way leaves the table
abbrev pub ran_in : List ℕ → ℕ → ℕ → ℕ → List ℕ → Result (Arrival ℕ) Refusal
ran_in t P S s es = cond (counts_fit t P S) (tested (on_table t P S s es) (ran_of (monitor_in t P S) (alphabet_in t P) s es)) (Err WrongTable)

-- the row of state s: its verdict, and its successor for each event
abbrev pub row_of : List ℕ → ℕ → ℕ → StateRow
row_of t P s = record { verdict = verdict_of (verdict_byte t P s); successors = tabulate (2 ^ P) (successor t P s) ++ drop (2 ^ P) (replicate 16 0) }

-- "thin functions read a row": of a table's bytes, 14, then 13, then the row
abbrev pub row_read : List ℕ → ℕ → Result StateRow Refusal
row_read t s = cond (is_table t) (cond (ltb s (states_in t)) (Ok (row_of t (signals_in t) s)) (Err WrongState)) (Err WrongTable)

-- the same from bytes and counts in hand: 14 for counts and length, 13, and 14 where the row is none of a table
abbrev pub row_in : List ℕ → ℕ → ℕ → ℕ → Result StateRow Refusal
row_in t P S s =
    cond (counts_fit t P S)
    (cond (ltb s S)
    (cond (every (content_tests t P S s)) (Ok (row_of t P s)) (Err WrongTable))
    (Err WrongState))
    (Err WrongTable)
