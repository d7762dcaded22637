-- What is built from rule files, where each rule has a residual system.
use Rattle.std.specs.Prelude.{◌≡◌, List, ℕ}
use Rattle.meaning.specs.RuleFiles.{Rule, alphabet_of, property_of, Judgement, judge}
use Rattle.residuals.specs.System.{System}
use Rattle.smallest.specs.Table.{Table, table_of}

module _ (system : (r : Rule) → System (alphabet_of r) (property_of r)) where
  -- "neither reading its file nor building its table refused it", and this is its table
  pub record Built (file table : List ℕ) : Type 0 where
    pub rule : Rule
    pub reads : judge file ≡ Judgement.Accepted rule
    pub is : table_of (system rule) rule.signals ≡ Table table
