-- What C-14 leaves as it was: judgement and table of every file but those whose second record has kind 257.
use Rattle.std.specs.Prelude.{◌≡◌, ◌↔◌, List, ℕ}
use Rattle.meaning.specs.Bytes.{u16_at}
use Rattle.meaning.specs.Traces.{Event}
use Rattle.meaning.specs.RuleFiles.{Rule, alphabet_of, property_of, Judgement, Accepted, Refused, judge}
use Rattle.meaning.specs.declared.Refusal.TheVariants.{WrongKind}
use Rattle.residuals.specs.System.{System}
use Rattle.smallest.specs.Table.{table_of}
use Rattle.building.specs.Build.{answer_to, output_of, answer_of, output_after}
use Rattle.unmasked_files.specs.Earlier.{old_alphabet, old_judge}
use Rattle.std.specs.Prelude.{Result, Err}
use Rattle.meaning.specs.declared.Refusal.{Refusal}

-- the only files with another judgement: they were refused by 3 at their second record, which has kind 257
pub record MaskSecond (file : List ℕ) : Type 0 where
  pub was : old_judge file ≡ Refused (WrongKind 6)
  pub kind : u16_at file 8 ≡ 257

-- what building answered, and left in the output: by the judgement of that time, and by any residual system over the events of that time
module _ (system : (r : Rule) → System (old_alphabet r) (property_of r)) where
  abbrev pub old_answer : Judgement → List ℕ → Result ℕ Refusal
  old_answer (Accepted r) out = answer_to (table_of (system r) r.signals) out
  old_answer (Refused x) out = Err x

  abbrev pub old_output : Judgement → List ℕ → List ℕ
  old_output (Accepted r) out = output_of (table_of (system r) r.signals) out
  old_output (Refused x) out = out

  -- the judgement it had, "Without it all can", and the table it had, byte for byte
  pub record Kept (file : List ℕ) : Type 0 where
    pub judgement : judge file ≡ old_judge file
    pub events : (r : Rule) → old_judge file ≡ Accepted r → (e : ℕ) → Event (alphabet_of r) e ↔ Event (old_alphabet r) e
    pub answer : (out : List ℕ) → answer_of (judge file) out ≡ old_answer (old_judge file) out
    pub output : (out : List ℕ) → output_after (judge file) out ≡ old_output (old_judge file) out
