-- "Table files", to the byte, and the monitor that a table file is.
use Rattle.std.specs.Prelude.{List, [], ◌∷◌, Bool, cond, not, ◌&&◌, ℕ, ◌+◌, ◌*◌, ◌^◌, length, get_or, ltb, leb, eqb}
use Rattle.sequences.specs.Tabulate.{every, all_below}
use Rattle.meaning.specs.Bytes.{u16_at}
use Rattle.meaning.specs.Traces.{Alphabet}
use Rattle.meaning.specs.Monitors.{Monitor}
use Rattle.meaning.specs.declared.Verdict.{Verdict}
use Rattle.meaning.specs.declared.Verdict.TheVariants.{Undecided, Satisfied, Violated, Moot}
use Rattle.meaning.specs.declared.Refusal.TheVariants.{WrongTable}
use Rattle.std.specs.Prelude.{Result, Ok, Err}
use Rattle.meaning.specs.declared.Counts.{Counts}
use Rattle.meaning.specs.declared.Refusal.{Refusal}

-- "First record: kind 512, body P (one byte) and S (two bytes)"
abbrev pub signals_in : List ℕ → ℕ
signals_in t = get_or t 4 0

abbrev pub states_in : List ℕ → ℕ
states_in t = u16_at t 5

-- "Then S records of kind 513: the verdict byte, then 2^P successors of two bytes, for event 0 upward."
abbrev pub row_length : ℕ → ℕ
row_length P = 5 + 2 * 2 ^ P

-- the place of a state's record, of its verdict byte and of its successor for an event, over P signals
abbrev pub row_at : ℕ → ℕ → ℕ
row_at P s = 7 + s * row_length P

abbrev pub verdict_byte : List ℕ → ℕ → ℕ → ℕ
verdict_byte t P s = get_or t (row_at P s + 4) 0

abbrev pub successor : List ℕ → ℕ → ℕ → ℕ → ℕ
successor t P s e = u16_at t (row_at P s + 5 + 2 * e)

-- "The whole is 7 + S × (5 + 2 × 2^P) bytes"
abbrev pub table_length : ℕ → ℕ → ℕ
table_length P S = 7 + S * row_length P

-- C-14: "An impossible event's successor is written 65,535"
abbrev pub no_successor : ℕ
no_successor = 65535

-- the events that can happen, read from the row of state 0
abbrev pub alphabet_in : List ℕ → ℕ → Alphabet
alphabet_in t P = record { width = 2 ^ P; possible = λ e. not (eqb (successor t P 0 e) no_successor) }

-- "only for the same events in every row": below S where the event can happen, and 65,535 where it cannot
abbrev pub successor_fits : List ℕ → ℕ → ℕ → ℕ → ℕ → Bool
successor_fits t P S s e = cond ((alphabet_in t P).possible e) (ltb (successor t P s e) S) (eqb (successor t P s e) no_successor)

-- "with at least one event left"
abbrev pub event_left : List ℕ → ℕ → Bool
event_left t P = not (all_below (2 ^ P) (λ e. not ((alphabet_in t P).possible e)))

-- what a state's record holds: "a verdict above 3", "a successor not below S" are refused
abbrev pub content_tests : List ℕ → ℕ → ℕ → ℕ → List Bool
content_tests t P S s = leb (verdict_byte t P s) 3 ∷ event_left t P ∷ all_below (2 ^ P) (successor_fits t P S s) ∷ []

-- the whole record, with its length and kind
abbrev pub row_tests : List ℕ → ℕ → ℕ → ℕ → List Bool
row_tests t P S s = eqb (u16_at t (row_at P s)) (3 + 2 * 2 ^ P) ∷ eqb (u16_at t (row_at P s + 2)) 513 ∷ content_tests t P S s

-- P and S are those of a table, "P is the number of signals, 1 to 4", "the number of states, 1 to 256", and the bytes have that table's length
abbrev pub counts_tests : List ℕ → ℕ → ℕ → List Bool
counts_tests t P S = leb 1 P ∷ leb P 4 ∷ leb 1 S ∷ leb S 256 ∷ eqb (length t) (table_length P S) ∷ []

-- the first record, and the length of the whole
abbrev pub header_tests : List ℕ → List Bool
header_tests t = leb 7 (length t) ∷ eqb (u16_at t 0) 5 ∷ eqb (u16_at t 2) 512 ∷ counts_tests t (signals_in t) (states_in t)

-- the bytes are "exactly of the form above"
unfoldable pub is_table : List ℕ → Bool
is_table t = every (header_tests t) && all_below (states_in t) (λ s. every (row_tests t (signals_in t) (states_in t) s))

-- "Opening checks the bytes and refuses by 14"
abbrev pub checked_of : List ℕ → Result Counts Refusal
checked_of t = cond (is_table t) (Ok (record { signals = signals_in t; states = states_in t })) (Err WrongTable)

-- "Verdict bytes: 0 undecided, 1 satisfied, 2 violated, 3 moot."
abbrev pub verdict_of : ℕ → Verdict
verdict_of v = get_or (Undecided ∷ Satisfied ∷ Violated ∷ Moot ∷ []) v Undecided

-- the byte of a verdict
abbrev pub verdict_number : Verdict → ℕ
verdict_number Undecided = 0
verdict_number Satisfied = 1
verdict_number Violated = 2
verdict_number Moot = 3

-- the monitor in the bytes, over P signals and with S states
abbrev pub monitor_in : List ℕ → ℕ → ℕ → Monitor
monitor_in t P S = record { states = S; start = 0; verdict = λ s. verdict_of (verdict_byte t P s); next = λ s e. successor t P s e }

-- "Ours is read from the bytes as building left them: T is S, and the start is state 0."
abbrev pub monitor_of : List ℕ → Monitor
monitor_of t = monitor_in t (signals_in t) (states_in t)
