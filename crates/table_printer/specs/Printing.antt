-- What printing a rule file writes: "the table printer takes [..] a rule file and [..] prints exactly" its table, or "a refusal prints one line".
use Rattle.std.specs.Prelude.{List, cond, ℕ, length, leb, Result, Ok, Err}
use Rattle.meaning.specs.RuleFiles.{Judgement, judge}
use Rattle.meaning.specs.declared.Refusal.{Refusal}
use Rattle.meaning.specs.declared.Refusal.TheVariants.{ShortOutput, TooManyResiduals}
use Rattle.smallest.specs.Table.{Outcome, Table, TooMany}
use Rattle.building.specs.Build.{outcome_of}
use Rattle.text_pieces.specs.Put.{at_front}
use Rattle.text_pieces.specs.RefusalLine.{refusal_text}
use Rattle.table_text.specs.Text.{text_of}

-- the text of what building comes to, given a long enough buffer
abbrev pub outcome_text : Outcome → List ℕ
outcome_text (Table t) = text_of t
outcome_text TooMany = refusal_text TooManyResiduals

abbrev pub judgement_text : Judgement → List ℕ
judgement_text (Judgement.Accepted r) = outcome_text (outcome_of r)
judgement_text (Judgement.Refused x) = refusal_text x

-- the text of a rule file
abbrev pub printed : List ℕ → List ℕ
printed file = judgement_text (judge file)

-- the answer: 10 where the output has fewer than 32,768 bytes, in which every text fits
abbrev pub print_answer : List ℕ → List ℕ → Result ℕ Refusal
print_answer file out = cond (leb 32768 (length out)) (Ok (length (printed file))) (Err ShortOutput)

-- the output then: on a refusal "Lent buffers keep every byte"
abbrev pub print_after : List ℕ → List ℕ → List ℕ
print_after file out = cond (leb 32768 (length out)) (at_front (printed file) out) out
