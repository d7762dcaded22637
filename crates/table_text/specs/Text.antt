-- The text of a table, as document 01 prints it, in ASCII: byte 32 between words, byte 10 at the end of each line.
use Rattle.std.specs.Prelude.{List, [], ◌∷◌, ◌++◌, cond, ℕ, ◌^◌, length, leb, Result, Ok, Err}
use Rattle.sequences.specs.Tabulate.{joined}
use Rattle.meaning.specs.TableFiles.{signals_in, states_in, verdict_byte, verdict_of, successor, is_table}
use Rattle.meaning.specs.declared.Verdict.{Verdict}
use Rattle.meaning.specs.declared.Verdict.TheVariants.{Undecided, Satisfied, Violated, Moot}
use Rattle.meaning.specs.declared.Refusal.{Refusal}
use Rattle.meaning.specs.declared.Refusal.TheVariants.{ShortOutput, WrongTable}
use Rattle.text_pieces.specs.Put.{at_front}
use Rattle.text_pieces.specs.Decimal.{decimal}

-- "undecided", "satisfied", "violated", "moot"
abbrev pub word : Verdict → List ℕ
word Undecided = 117 ∷ 110 ∷ 100 ∷ 101 ∷ 99 ∷ 105 ∷ 100 ∷ 101 ∷ 100 ∷ []
word Satisfied = 115 ∷ 97 ∷ 116 ∷ 105 ∷ 115 ∷ 102 ∷ 105 ∷ 101 ∷ 100 ∷ []
word Violated = 118 ∷ 105 ∷ 111 ∷ 108 ∷ 97 ∷ 116 ∷ 101 ∷ 100 ∷ []
word Moot = 109 ∷ 111 ∷ 111 ∷ 116 ∷ []

-- "signals P states S"
abbrev pub counts_text : ℕ → ℕ → List ℕ
counts_text P S =
    (115 ∷ 105 ∷ 103 ∷ 110 ∷ 97 ∷ 108 ∷ 115 ∷ 32 ∷ [])
    ++ decimal P ++ (32 ∷ 115 ∷ 116 ∷ 97 ∷ 116 ∷ 101 ∷ 115 ∷ 32 ∷ []) ++ decimal S ++ (10 ∷ [])

-- the successors of a state for the first n events, a space before each
abbrev pub successors_text : List ℕ → ℕ → ℕ → ℕ → List ℕ
successors_text t P s n = joined n (λ e. 32 ∷ decimal (successor t P s e))

-- "Each later line is state number, verdict word, successors for event 0 upward."
abbrev pub line_text : List ℕ → ℕ → ℕ → List ℕ
line_text t P s = decimal s ++ (32 ∷ []) ++ word (verdict_of (verdict_byte t P s)) ++ successors_text t P s (2 ^ P) ++ (10 ∷ [])

-- the lines of the first n states
abbrev pub lines_text : List ℕ → ℕ → ℕ → List ℕ
lines_text t P n = joined n (λ s. line_text t P s)

-- the text of a table's bytes
unfoldable pub text_of : List ℕ → List ℕ
text_of t = counts_text (signals_in t) (states_in t) ++ lines_text t (signals_in t) (states_in t)

-- the answer: 14 where the bytes are no table, 10 where the output has fewer than 32,768 bytes, in which the text of every table fits
abbrev pub text_answer : List ℕ → List ℕ → Result ℕ Refusal
text_answer t out =
    cond (is_table t) (cond (leb 32768 (length out)) (Ok (length (text_of t))) (Err ShortOutput)) (Err WrongTable)

-- the output then: on a refusal "Lent buffers keep every byte"
abbrev pub text_after : List ℕ → List ℕ → List ℕ
text_after t out = cond (is_table t) (cond (leb 32768 (length out)) (at_front (text_of t) out) out) out
