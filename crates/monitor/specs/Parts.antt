-- What the parts of building say of one another.
use Rattle.std.specs.Prelude.{◌≡◌, List, ℕ, ◌^◌}
use Rattle.meaning.specs.Traces.{masked}
use Rattle.table_bytes.specs.Written.{written_of, table_after}
use Rattle.grouping.specs.Reduction.{Reduction}
use Rattle.std.specs.Prelude.{Result, Option}
use Rattle.meaning.specs.RuleFiles.{Rule, alphabet_of}
use Rattle.ltl.specs.Nodes.{splits}
use Rattle.ltl.specs.Keys.{tables_of}
use Rattle.exploration.specs.Answers.{Explores}
use Rattle.exploration.specs.declared.States.{States}
use Rattle.meaning.specs.declared.Refusal.{Refusal}

-- the machine was reduced to so many groups, with these verdict bytes and rows, and they were written
pub record Finished (P mask n : ℕ) (rows : List (List ℕ)) (classes before : List ℕ) (r : Result ℕ Refusal) (after : List ℕ) : Type 0 where
  pub groups : ℕ
  pub bytes₀ : List ℕ
  pub to₀ : List (List ℕ)
  pub bytes : List ℕ
  pub to : List (List ℕ)
  pub reduction : Reduction (masked (2 ^ P) mask) n rows classes bytes₀ to₀ groups bytes to
  pub answer : r ≡ written_of P groups before
  pub output : after ≡ table_after (masked (2 ^ P) mask) P groups bytes to before

-- the walk over the keys of a rule's remaining properties met these states, or too many
pub record Walks (r : Rule) (found : Option States) : Type 0 where
  pub is : Explores r.signals r.mask (tables_of (alphabet_of r) (splits r.nodes)) found
