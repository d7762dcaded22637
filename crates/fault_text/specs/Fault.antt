-- The refusal of a rule's text as a person reads it, in ASCII: the refusal's line, the text's line, and a mark under the place.
use Rattle.std.specs.Prelude.{List, [], ◌∷◌, ◌++◌, map, cond, ℕ, min, length, take, replicate, leb, ltb, Result, Ok, Err}
use Rattle.meaning.specs.Refusals.{code_of}
use Rattle.meaning.specs.declared.Refusal.{Refusal}
use Rattle.meaning.specs.declared.Refusal.TheVariants.{ShortOutput}
use Rattle.text_pieces.specs.Put.{at_front}
use Rattle.text_pieces.specs.RefusalLine.{refusal_text}

-- a byte as it shows: itself from 32 to 126, `?` (63) elsewhere
unfoldable pub shown : ℕ → ℕ
shown b = cond (ltb b 32) 63 (cond (ltb 126 b) 63 b)

-- the first 1,024 bytes of the text, a line end, and `^` (94) with as many spaces before it as the place says, at most 1,024
abbrev pub marked : List ℕ → ℕ → List ℕ
marked text place = map shown (take 1024 text) ++ (10 ∷ []) ++ replicate (min place 1024) 32 ++ (94 ∷ 10 ∷ [])

unfoldable pub fault_text : Refusal → List ℕ → List ℕ
fault_text r text = refusal_text r ++ marked text (code_of r).1

-- the answer: 10 where the output has fewer than 4,096 bytes, in which every fault's text fits
abbrev pub fault_answer : Refusal → List ℕ → List ℕ → Result ℕ Refusal
fault_answer r text out = cond (leb 4096 (length out)) (Ok (length (fault_text r text))) (Err ShortOutput)

-- the output then: on a refusal "Lent buffers keep every byte"
abbrev pub fault_after : Refusal → List ℕ → List ℕ → List ℕ
fault_after r text out = cond (leb 4096 (length out)) (at_front (fault_text r text) out) out
