-- What writing a text's rule file answers as one number.
use Rattle.std.specs.Prelude.{◌≡◌, List, ℕ}
use Rattle.codes.specs.Codes.{length_code}
use Rattle.rule_text.specs.Writing.{Writes, Right}
use Rattle.std.specs.Prelude.{Result}
use Rattle.meaning.specs.declared.Refusal.{Refusal}

-- the number of the answer, with the output before and after
pub record Written (text : List ℕ) (P : ℕ) (before : List ℕ) (r : ℕ) (after : List ℕ) : Type 0 where
  pub answer : Result ℕ Refusal
  pub code : r ≡ length_code answer
  pub writes : Writes text P before answer after
  pub right : Right text P after answer
