-- The line of a refusal, as document 01 prints it, in ASCII: byte 32 between words, byte 10 at the end.
use Rattle.std.specs.Prelude.{List, [], ◌∷◌, ◌++◌, cond, ℕ, length, leb, Result, Ok, Err}
use Rattle.meaning.specs.Refusals.{code_of}
use Rattle.meaning.specs.declared.Refusal.{Refusal}
use Rattle.meaning.specs.declared.Refusal.TheVariants.{ShortOutput}
use Rattle.text_pieces.specs.Put.{at_front}
use Rattle.text_pieces.specs.Decimal.{decimal}

-- "refused 6 at 11"
unfoldable pub refusal_text : Refusal → List ℕ
refusal_text r =
    (114 ∷ 101 ∷ 102 ∷ 117 ∷ 115 ∷ 101 ∷ 100 ∷ 32 ∷ [])
    ++ decimal (code_of r).0 ++ (32 ∷ 97 ∷ 116 ∷ 32 ∷ []) ++ decimal (code_of r).1 ++ (10 ∷ [])

-- the answer: 10 where the output has fewer than 64 bytes, in which every refusal's line fits
abbrev pub line_answer : Refusal → List ℕ → Result ℕ Refusal
line_answer r out = cond (leb 64 (length out)) (Ok (length (refusal_text r))) (Err ShortOutput)

-- the output then: on a refusal "Lent buffers keep every byte"
abbrev pub line_after : Refusal → List ℕ → List ℕ
line_after r out = cond (leb 64 (length out)) (at_front (refusal_text r) out) out
