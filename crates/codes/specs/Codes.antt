-- Answers as one number. Below 2^56 it is what was asked for; a refusal has its number, from 1 up, in the top byte, and its place below that.
use Rattle.std.specs.Prelude.{cond, List, [], ◌∷◌, ℕ, ◌+◌, ◌-◌, ◌*◌, ◌^◌, ◌/◌, ◌%◌, ltb}
use Rattle.meaning.specs.Refusals.{code_of}
use Rattle.meaning.specs.TableFiles.{verdict_number}
use Rattle.meaning.specs.declared.Refusal.{Refusal}
use Rattle.meaning.specs.declared.State.{State}
use Rattle.meaning.specs.declared.Served.{Served}
use Rattle.meaning.specs.declared.Watch.{Watch}
use Rattle.meaning.specs.Openings.{state_of, run_from_in}
use Rattle.meaning.specs.Recordings.{judged_in}
use Rattle.meaning.specs.Desks.{Outcome, fresh_in, post_in, turn_in}
use Rattle.codes.specs.declared.Opening.{Opening}
use Rattle.std.specs.Prelude.{Result, Ok, Err, Option, Some, None}
use Rattle.meaning.specs.declared.Counts.{Counts}
use Rattle.meaning.specs.declared.Arrival.{Arrival}
use Rattle.meaning.specs.declared.Verdict.{Verdict}

-- "Every refusal returns a number and a place." A place of 2^56 or more, which no memory holds, is shown as 2^56 - 1.
abbrev pub place_code : ℕ → ℕ
place_code p = cond (ltb p (2 ^ 56)) p (2 ^ 56 - 1)

abbrev pub refusal_code : Refusal → ℕ
refusal_code r = (code_of r).0 * 2 ^ 56 + place_code (code_of r).1

-- the length in bytes of the rule file, the table or the text that was written
abbrev pub length_code : Result ℕ Refusal → ℕ
length_code (Ok n) = n
length_code (Err r) = refusal_code r

-- a state as one 32-bit number: the number of its opening times 65,536, and its own
abbrev pub state_code : State → ℕ
state_code s = s.opening * 65536 + s.number

-- the state in a number
abbrev pub state_in : ℕ → State
state_in c = state_of (c / 65536) (c % 65536)

-- an opening with the number n, by what checking the bytes found: its signals times 2^32, n times 65,536, and its states
abbrev pub opened_code : ℕ → Result Counts Refusal → ℕ
opened_code n (Ok c) = c.signals * 2 ^ 32 + n * 65536 + c.states
opened_code n (Err r) = refusal_code r

-- the three numbers of an opening
abbrev pub signals_of : ℕ → ℕ
signals_of c = c / 2 ^ 32

abbrev pub number_of : ℕ → ℕ
number_of c = c / 65536 % 65536

abbrev pub states_of : ℕ → ℕ
states_of c = c % 65536

-- the start of an opening
abbrev pub start_code : ℕ → ℕ
start_code c = state_code (state_of (number_of c) 0)

-- the verdict times 2^32, and the state
abbrev pub arrived_code : Result (Arrival State) Refusal → ℕ
arrived_code (Ok a) = verdict_number a.verdict * 2 ^ 32 + state_code a.state
arrived_code (Err r) = refusal_code r

-- the count of events, or 2^64 - 1 for "none"
abbrev pub count_code : Option ℕ → ℕ
count_code (Some n) = n
count_code None = 2 ^ 64 - 1

-- what a run leaves where the count goes: the count, or on a refusal what was there
abbrev pub count_after : Result (Arrival State) Refusal → ℕ → ℕ
count_after (Ok a) was = count_code a.decided
count_after (Err r) was = was

-- a run with the opening c of the bytes t, from the state s; a step is one over an event alone
abbrev pub run_at : List ℕ → ℕ → ℕ → List ℕ → Result (Arrival State) Refusal
run_at t c s es = run_from_in (number_of c) t (signals_of c) (states_of c) (state_in s) es

abbrev pub step_at : List ℕ → ℕ → ℕ → ℕ → Result (Arrival State) Refusal
step_at t c s e = run_at t c s (e ∷ [])

-- the verdict times 2^32
abbrev pub shown_code : Result Verdict Refusal → ℕ
shown_code (Ok v) = verdict_number v * 2 ^ 32
shown_code (Err r) = refusal_code r

-- two recordings with gaps, with the opening c
abbrev pub judge_at : List ℕ → ℕ → List ℕ → List ℕ → Result Verdict Refusal
judge_at t c a b = judged_in t (signals_of c) (states_of c) a b

-- the number of a tunnel; one of 128 or more, which no desk has, is shown as 127
abbrev pub number_code : ℕ → ℕ
number_code i = cond (ltb i 128) i 127

-- what a desk answers: 0 where the work is done or none waits; where an event was heard 2^55, with the tunnel's number, the event, the verdict and the state below it
abbrev pub served_code : Result Served Refusal → ℕ
served_code (Ok Served.Done) = 0
served_code (Ok (Served.Heard i e s v)) = 2 ^ 55 + number_code i * 2 ^ 48 + e * 2 ^ 40 + verdict_number v * 2 ^ 32 + state_code s
served_code (Ok (Served.NoneWaits l)) = 0
served_code (Err r) = refusal_code r

-- the opening in a number; with 0 signals and 0 states, which no table has, where it has more signals than four
abbrev pub opening_in : ℕ → Opening
opening_in c =
    cond (ltb 4 (signals_of c))
    (record { number = number_of c; signals = 0; states = 0 })
    (record { number = number_of c; signals = signals_of c; states = states_of c })

-- a fresh desk, a post and a turn with the opening c
abbrev pub fresh_at : List ℕ → ℕ → List Watch → Outcome
fresh_at t c d = fresh_in (number_of c) t (signals_of c) (states_of c) d

abbrev pub post_at : List ℕ → ℕ → List Watch → ℕ → ℕ → Outcome
post_at t c d i e = post_in (number_of c) t (signals_of c) (states_of c) d i e

abbrev pub turn_at : List ℕ → ℕ → List Watch → ℕ → Outcome
turn_at t c d l = turn_in (number_of c) t (signals_of c) (states_of c) d l
