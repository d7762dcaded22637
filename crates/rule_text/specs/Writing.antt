-- What writing the rule file of a text answers and leaves in the output, and what that says of the text.
use Rattle.std.specs.Prelude.{◌≡◌, ◌⊎◌, ◌↔◌, List, ℕ, ◌<◌, length, take}
use Rattle.meaning.specs.Refusals.{code_of}
use Rattle.meaning.specs.Grammar.{Tree, Fits, Parsed, ParsedAs}
use Rattle.meaning.specs.RuleFiles.{rule_formula}
use Rattle.meaning.specs.RuleTexts.{tree_formula, rule_of, write_answer, file_of, output_of}
use Rattle.meaning.specs.Demands.{Reads}
use Rattle.grammar.specs.Reading.{parsed_of}
use Rattle.std.specs.Prelude.{Result, Ok, Err}
use Rattle.meaning.specs.declared.Refusal.{Refusal}

-- The answer and the output, with what reading the text finds. A text is read in exactly one way (grammar.Texts), so both
-- are fixed (Rights.fixed).
pub record Writes (text : List ℕ) (P : ℕ) (before : List ℕ) (answer : Result ℕ Refusal) (after : List ℕ) : Type 0 where
  pub parsed : Parsed
  pub reads : ParsedAs text parsed
  pub answer_is : answer ≡ write_answer text P (length before) parsed
  pub output : after ≡ output_of answer (file_of P parsed) before

-- The same two as functions of the text, by what the machine and the descent find in it (grammar.Reading).
abbrev pub written_answer : List ℕ → ℕ → List ℕ → Result ℕ Refusal
written_answer text P before = write_answer text P (length before) (parsed_of text)

abbrev pub written_after : List ℕ → ℕ → List ℕ → List ℕ
written_after text P before = output_of (written_answer text P before) (file_of P (parsed_of text)) before

-- "each other text has one reading": the text fits with one tree. The file is one that reading accepts, and its rule says the tree's formula.
pub record Typed (text : List ℕ) (P : ℕ) (file : List ℕ) : Type 0 where
  pub tree : Tree
  pub fits : Fits text tree
  pub only : (t : Tree) → Fits text t → t ≡ tree
  pub reads : Reads file (rule_of P tree)
  pub formula : rule_formula (rule_of P tree) ≡ tree_formula tree

-- "Up to 1,024 bytes, 15 falls on exactly the texts outside the grammar"
abbrev pub Right : List ℕ → ℕ → List ℕ → Result ℕ Refusal → Type 0
Right text P after (Ok n) = Typed text P (take n after)
Right text P after (Err r) = ((code_of r).0 ≡ 15) ↔ ((1024 < length text) ⊎ ((t : Tree) → ¬ Fits text t))

-- room for every file that is written: the first record's 6 bytes, 31 nodes with two operands and 33 others. A text is never refused by 10 with as
-- much (Rights.room-enough).
abbrev pub longest_file : ℕ
longest_file = 357
