-- What is shown of a line of the table of known rules.
use Rattle.std.specs.Prelude.{◌≡◌, ◌↔◌, List, ℕ, ◌^◌}
use Rattle.meaning.specs.Traces.{Alphabet, masked, Word}
use Rattle.meaning.specs.Formulas.{Holds}
use Rattle.meaning.specs.Verdicts.{Property, Judged}
use Rattle.meaning.specs.Monitors.{shows}
use Rattle.meaning.specs.RuleFiles.{Rule, alphabet_of, property_of, rule_formula}
use Rattle.meaning.specs.TableFiles.{monitor_of}
use Rattle.meaning.specs.Demands.{Reads, Demand3}
use Rattle.meaning.specs.declared.Verdict.{Verdict}
use Rattle.ltl.proofs.Instance.{ltl_system}
use Rattle.smallest.specs.Builder.{Built}
use Rattle.known_rules.specs.Files.{table_file}
use Rattle.known_rules.specs.Rules.{KnownRule}

-- the bytes of a line's table
abbrev pub bytes : KnownRule → List ℕ
bytes k = table_file k.table

-- the traces that satisfy a line's formula
abbrev pub property : KnownRule → Property
property k ρ = Holds ρ 0 k.formula

-- the events of a line's table that can happen
abbrev pub alphabet : KnownRule → Alphabet
alphabet k = masked (2 ^ k.table.signals) k.table.mask

-- The file is accepted, as a rule over the table's signals and events that is the formula. What is built from it is the table, to the byte. After every
-- list of events the table shows a verdict exactly if the continuations give it. And demand 3 holds of the table.
pub record Line (k : KnownRule) : Type 0 where
  pub rule : Rule
  pub reads : Reads k.file rule
  pub signals : rule.signals ≡ k.table.signals
  pub mask : rule.mask ≡ k.table.mask
  pub formula : rule_formula rule ≡ k.formula
  pub built : Built ltl_system k.file (bytes k)
  pub only : (t : List ℕ) → Built ltl_system k.file t → t ≡ bytes k
  pub verdicts : (w : List ℕ) → Word (alphabet_of rule) w → (v : Verdict) → (shows (monitor_of (bytes k)) w ≡ v) ↔ Judged (alphabet_of rule) (property_of rule) w v
  pub demand_3 : Demand3 (Built ltl_system) k.file rule (bytes k)

-- the same of the formula itself, with no file: the table shows a verdict after a list exactly if the continuations of the list give it
abbrev pub TableOf : KnownRule → Type 0
TableOf k = (w : List ℕ) → Word (alphabet k) w → (v : Verdict) → (shows (monitor_of (bytes k)) w ≡ v) ↔ Judged (alphabet k) (property k) w v
