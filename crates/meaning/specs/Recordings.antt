-- Document 02, C-17: "Two recordings with gaps". In the field's terms a recorded event is a partial valuation of the signals, and a completion a list of
-- total ones that extend it. An answer is defined by completions alone.
use Rattle.std.specs.Prelude.{List, [], ◌∷◌, ◌++◌, map, Bool, true, cond, not, ◌&&◌, ℕ, ◌+◌, ◌*◌, ◌/◌, ◌%◌, ◌^◌, length, get_or, T, ltb, eqb}
use Rattle.std.specs.Int.Bits.{bit_or}
use Rattle.sequences.specs.Tabulate.{every, all_below, tabulate, joined}
use Rattle.meaning.specs.Bytes.{bit}
use Rattle.meaning.specs.Traces.{Alphabet, Event}
use Rattle.meaning.specs.Monitors.{Monitor, follow, keep, events}
use Rattle.meaning.specs.RuleFiles.{first_of}
use Rattle.meaning.specs.TableFiles.{is_table, alphabet_in, signals_in, monitor_in, monitor_of, verdict_number}
use Rattle.meaning.specs.Runs.{counts_fit, on_table}
use Rattle.meaning.specs.declared.Verdict.{Verdict}
use Rattle.meaning.specs.declared.Verdict.TheVariants.{Undecided, Satisfied, Violated, Moot}
use Rattle.meaning.specs.declared.Refusal.{Refusal}
use Rattle.meaning.specs.declared.Refusal.TheVariants.{WrongEvent, WrongTable, WrongRecordings, Contradiction}
use Rattle.meaning.specs.declared.Seen.{Seen}
use Rattle.std.specs.Prelude.{Result, Ok, Err}

-- "A recorded event is two bytes: which signals are known, and their values": the one with an index, of a recording's bytes
abbrev pub seen_at : List ℕ → ℕ → Seen
seen_at a i = record { known = get_or a (2 * i) 0; values = get_or a (2 * i + 1) 0 }

-- signal s is known
abbrev pub knows : Seen → ℕ → Bool
knows r s = eqb (bit s r.known) 1

-- "Join two recordings, each filling the other's gaps": a signal is known where either knows it. Unknown bits are 0, so its value is that of the one that does
abbrev pub join : Seen → Seen → Seen
join r q = record { known = bit_or r.known q.known; values = bit_or r.values q.values }

-- the events of two recordings, joined
abbrev pub joined_at : List ℕ → List ℕ → ℕ → Seen
joined_at a b i = join (seen_at a i) (seen_at b i)

abbrev pub joined_list : List ℕ → List ℕ → List Seen
joined_list a b = tabulate (length a / 2) (joined_at a b)

-- ---- completions

-- the event has the recorded value at each of the P signals that is known
abbrev pub agrees : ℕ → Seen → ℕ → Bool
agrees P r e = all_below P (λ s. cond (knows r s) (eqb (bit s e) (bit s r.values)) true)

-- "all possible completions": lists of possible events that agree, event by event
abbrev pub Completion : Alphabet → ℕ → List Seen → List ℕ → Type 0
Completion Σ P [] [] = Unit {0}
Completion Σ P [] (e ∷ w) = ⊥
Completion Σ P (r ∷ rs) [] = ⊥
Completion Σ P (r ∷ rs) (e ∷ w) = Event Σ e × T (agrees P r e) × Completion Σ P rs w

-- the possible events that agree with one recorded event
abbrev pub choices : Alphabet → ℕ → Seen → List ℕ
choices Σ P r = keep (agrees P r) (events Σ)

-- each of the events before each of the lists
abbrev pub before : List ℕ → List (List ℕ) → List (List ℕ)
before [] ws = []
before (e ∷ es) ws = map (λ w. e ∷ w) ws ++ before es ws

-- and all completions, as a list
unfoldable pub completions : Alphabet → ℕ → List Seen → List (List ℕ)
completions Σ P [] = [] ∷ []
completions Σ P (r ∷ rs) = before (choices Σ P r) (completions Σ P rs)

-- ---- "Satisfied, violated or moot is answered exactly if every completion's run ends with it; else undecided."

-- every completion's run from state 0 ends with the verdict
unfoldable pub all_end : Monitor → List (List ℕ) → Verdict → Bool
all_end m ws v = every (map (λ w. eqb (verdict_number (m.verdict (follow m 0 w))) (verdict_number v)) ws)

abbrev pub verdict_over : Monitor → List (List ℕ) → Verdict
verdict_over m ws =
    cond (all_end m ws Satisfied) Satisfied
    (cond (all_end m ws Violated) Violated
    (cond (all_end m ws Moot) Moot Undecided))

-- ---- refusals

-- "22 byte lengths differ or are odd"
abbrev pub lengths_fit : List ℕ → List ℕ → Bool
lengths_fit a b = eqb (length a) (length b) && eqb (length a % 2) 0

-- "a bit at or above P or a value bit that is unknown" is none of a recorded event's
abbrev pub seen_fits : ℕ → Seen → Bool
seen_fits P r = every (ltb r.known (2 ^ P) ∷ ltb r.values (2 ^ P) ∷ all_below P (λ s. cond (knows r s) true (eqb (bit s r.values) 0)) ∷ [])

-- "the recordings contradict each other": both know a signal, with different values
abbrev pub contradict : ℕ → Seen → Seen → Bool
contradict P r q = not (all_below P (λ s. cond (knows r s && knows q s) (eqb (bit s r.values) (bit s q.values)) true))

-- "For each event: 12 if either recording has a bit at or above P or a value bit that is unknown, 23, 12 if the joined event has no possible completion";
-- the place is the event's index
abbrev pub event_checks : Alphabet → ℕ → List ℕ → List ℕ → ℕ → List (Bool × Refusal)
event_checks Σ P a b i =
    (not (seen_fits P (seen_at a i) && seen_fits P (seen_at b i)), WrongEvent i)
    ∷ (contradict P (seen_at a i) (seen_at b i), Contradiction i)
    ∷ (eqb (length (choices Σ P (joined_at a b i))) 0, WrongEvent i)
    ∷ []

-- all of one event come before the next event's
abbrev pub recording_checks : Alphabet → ℕ → List ℕ → List ℕ → List (Bool × Refusal)
recording_checks Σ P a b = (not (lengths_fit a b), WrongRecordings) ∷ joined (length a / 2) (event_checks Σ P a b)

-- ---- "run the table from state 0 over all possible completions"

-- 14 where the bytes are no table, before all else
unfoldable pub judged_of : List ℕ → List ℕ → List ℕ → Result Verdict Refusal
judged_of t a b =
    let Σ = alphabet_in t (signals_in t) in
    cond (is_table t)
    (first_of Err (recording_checks Σ (signals_in t) a b) (Ok (verdict_over (monitor_of t) (completions Σ (signals_in t) (joined_list a b)))))
    (Err WrongTable)

-- the same from bytes and counts in hand, as a step takes them: 14 for counts and length, and last where a completion's way leaves the table
unfoldable pub judged_in : List ℕ → ℕ → ℕ → List ℕ → List ℕ → Result Verdict Refusal
judged_in t P S a b =
    let ws = completions (alphabet_in t P) P (joined_list a b) in
    cond (counts_fit t P S)
    (first_of Err (recording_checks (alphabet_in t P) P a b)
    (cond (every (map (on_table t P S 0) ws)) (Ok (verdict_over (monitor_in t P S) ws)) (Err WrongTable)))
    (Err WrongTable)
