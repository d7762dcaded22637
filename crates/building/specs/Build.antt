-- What building a rule file's table answers and leaves in the output, and the demands of both.
use Rattle.std.specs.Prelude.{◌≡◌, ◌⊎◌, List, ◌++◌, cond, ℕ, ◌<◌, length, take, drop, leb}
use Rattle.meaning.specs.Verdicts.{MoreThan}
use Rattle.meaning.specs.Refusals.{code_of}
use Rattle.meaning.specs.RuleFiles.{Rule, alphabet_of, property_of, Judgement}
use Rattle.meaning.specs.Demands.{Reads, Demand2, Demand3}
use Rattle.meaning.specs.declared.Refusal.TheVariants.{ShortOutput, TooManyResiduals}
use Rattle.ltl.proofs.Instance.{ltl_system}
use Rattle.smallest.specs.Table.{Outcome, Table, TooMany, table_of}
use Rattle.smallest.specs.Builder.{Built as BuiltBy}
use Rattle.std.specs.Prelude.{Result, Ok, Err}
use Rattle.meaning.specs.declared.Refusal.{Refusal}

-- the smallest table of a rule, or that it can leave more than 256 different remaining properties
unfoldable pub outcome_of : Rule → Outcome
outcome_of r = table_of (ltl_system r) r.signals

-- "After the last node: 9, then 11, then 10."
abbrev pub answer_to : Outcome → List ℕ → Result ℕ Refusal
answer_to (Table t) out = cond (leb (length t) (length out)) (Ok (length t)) (Err ShortOutput)
answer_to TooMany out = Err TooManyResiduals

-- "Output bytes past the table keep their values"; on a refusal "Lent buffers keep every byte"
abbrev pub output_of : Outcome → List ℕ → List ℕ
output_of (Table t) out = cond (leb (length t) (length out)) (t ++ drop (length t) out) out
output_of TooMany out = out

abbrev pub answer_of : Judgement → List ℕ → Result ℕ Refusal
answer_of (Judgement.Accepted r) out = answer_to (outcome_of r) out
answer_of (Judgement.Refused x) out = Err x

abbrev pub output_after : Judgement → List ℕ → List ℕ
output_after (Judgement.Accepted r) out = output_of (outcome_of r) out
output_after (Judgement.Refused x) out = out

-- a table in the output, and the rule that its file says: demands 2 and 3 of the bytes as building left them
pub record BuiltRight (file table : List ℕ) : Type 0 where
  pub rule : Rule
  pub reads : Reads file rule
  pub built : BuiltBy ltl_system file table
  pub demand_2 : Demand2 (BuiltBy ltl_system) file rule
  pub demand_3 : Demand3 (BuiltBy ltl_system) file rule table

-- the rule's table is longer than the buffer
pub record NoRoom (file : List ℕ) (room : ℕ) : Type 0 where
  pub table : List ℕ
  pub built : BuiltBy ltl_system file table
  pub longer : room < length table

-- "Given a long enough buffer, a well-formed rule is refused only if it can leave more than 256 different remaining properties": by 11 exactly
-- then, and else by 10, only where the buffer has no room for the table
abbrev pub RefusedRight : List ℕ → ℕ → ℕ → Type 0
RefusedRight file room number =
    (rule : Rule) → Reads file rule
    → ((number ≡ 11) × MoreThan (alphabet_of rule) (property_of rule) 256)
    ⊎ ((number ≡ 10) × (¬ MoreThan (alphabet_of rule) (property_of rule) 256) × NoRoom file room)

-- the demands of an answer, with the output before and after it
abbrev pub Right : List ℕ → List ℕ → List ℕ → Result ℕ Refusal → Type 0
Right file before after (Ok n) = BuiltRight file (take n after)
Right file before after (Err r) = RefusedRight file (length before) (code_of r).0
