-- The bytes of a table as they are written, and the answer.
use Rattle.std.specs.Prelude.{List, [], ◌∷◌, ◌++◌, cond, ℕ, ◌+◌, ◌*◌, ◌^◌, length, get_or, drop, leb}
use Rattle.sequences.specs.Tabulate.{joined}
use Rattle.meaning.specs.Traces.{Alphabet}
use Rattle.meaning.specs.TableFiles.{table_length, no_successor}
use Rattle.meaning.specs.declared.Refusal.TheVariants.{ShortOutput}
use Rattle.wire.specs.Wire.{u16_bytes}
use Rattle.std.specs.Prelude.{Result, Ok, Err}
use Rattle.meaning.specs.declared.Refusal.{Refusal}

-- "First record: kind 512, body P (one byte) and S (two bytes)"
abbrev pub header_bytes : ℕ → ℕ → List ℕ
header_bytes P S = 5 ∷ 0 ∷ 0 ∷ 2 ∷ P ∷ u16_bytes S

-- the successor for an event, as it is written: "An impossible event's successor is written 65,535"
abbrev pub written_successor : Alphabet → List ℕ → ℕ → ℕ
written_successor Σ row e = cond (Σ.possible e) (get_or row e 0) no_successor

-- n successors of a row
abbrev pub successor_bytes : Alphabet → ℕ → List ℕ → List ℕ
successor_bytes Σ n row = joined n (λ e. u16_bytes (written_successor Σ row e))

-- "kind 513: the verdict byte, then 2^P successors of two bytes, for event 0 upward"
abbrev pub row_bytes : Alphabet → ℕ → ℕ → List ℕ → List ℕ
row_bytes Σ P verdict row = u16_bytes (3 + 2 * 2 ^ P) ++ (1 ∷ 2 ∷ verdict ∷ successor_bytes Σ (2 ^ P) row)

abbrev pub rows_bytes : Alphabet → ℕ → ℕ → List ℕ → List (List ℕ) → List ℕ
rows_bytes Σ P S verdicts rows = joined S (λ s. row_bytes Σ P (get_or verdicts s 0) (get_or rows s []))

-- the table of S states with these verdict bytes and rows, for the events of Σ
unfoldable pub table_bytes : Alphabet → ℕ → ℕ → List ℕ → List (List ℕ) → List ℕ
table_bytes Σ P S verdicts rows = header_bytes P S ++ rows_bytes Σ P S verdicts rows

-- the answer: "output shorter than the table" is refused by 10
abbrev pub written_of : ℕ → ℕ → List ℕ → Result ℕ Refusal
written_of P S out = cond (leb (table_length P S) (length out)) (Ok (table_length P S)) (Err ShortOutput)

-- the output then: "Output bytes past the table keep their values", and on a refusal "Lent buffers keep every byte"
abbrev pub table_after : Alphabet → ℕ → ℕ → List ℕ → List (List ℕ) → List ℕ → List ℕ
table_after Σ P S verdicts rows out = cond (leb (table_length P S) (length out)) (table_bytes Σ P S verdicts rows ++ drop (table_length P S) out) out
