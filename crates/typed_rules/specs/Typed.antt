-- What typing a rule, writing its file and building its table come to: demands 2 and 3 of the formula that was typed.
use Rattle.std.specs.Prelude.{◌≡◌, ◌⊎◌, ◌↔◌, List, true, ℕ, ◌≤◌, take}
use Rattle.meaning.specs.Traces.{over, is_event, Word}
use Rattle.meaning.specs.Formulas.{Holds}
use Rattle.meaning.specs.Verdicts.{Property, Judged, MoreThan}
use Rattle.meaning.specs.Monitors.{Monitor, Over, shows, ShowsVerdicts, Renumbered, BreadthFirst}
use Rattle.meaning.specs.TableFiles.{is_table, alphabet_in, signals_in, states_in, monitor_of}
use Rattle.meaning.specs.Refusals.{code_of}
use Rattle.meaning.specs.Grammar.{Tree, Fits}
use Rattle.meaning.specs.RuleTexts.{tree_formula, rule_of}
use Rattle.meaning.specs.Demands.{Reads}
use Rattle.meaning.specs.declared.Verdict.{Verdict}
use Rattle.ltl.proofs.Instance.{ltl_system}
use Rattle.smallest.specs.Builder.{Built as BuiltBy}
use Rattle.building.specs.Build.{NoRoom}
use Rattle.std.specs.Prelude.{Result, Ok, Err}
use Rattle.meaning.specs.declared.Refusal.{Refusal}

-- what was typed: the traces on which its formula holds
unfoldable pub typed : Tree → Property
typed t ρ = Holds ρ 0 (tree_formula t)

-- the text fits with the tree, the file says its rule over P signals, and this is the file's table
pub record TableOf (text : List ℕ) (P : ℕ) (file : List ℕ) (tree : Tree) (table : List ℕ) : Type 0 where
  pub fits : Fits text tree
  pub reads : Reads file (rule_of P tree)
  pub built : BuiltBy ltl_system file table

-- demands 2 and 3 of the table, field by field as they stand there, with the typed formula in place of a file's
pub record TypedTable (text : List ℕ) (P : ℕ) (file table : List ℕ) : Type 0 where
  pub tree : Tree
  pub table_of : TableOf text P file tree table
  pub verdicts : (w : List ℕ) → Word (over P) w → (v : Verdict) → (shows (monitor_of table) w ≡ v) ↔ Judged (over P) (typed tree) w v
  pub few : ¬ MoreThan (over P) (typed tree) 256
  pub form : is_table table ≡ true
  pub signals : signals_in table ≡ P
  pub events : (e : ℕ) → is_event (alphabet_in table (signals_in table)) e ≡ is_event (over P) e
  pub order : BreadthFirst (over P) (monitor_of table)
  pub smallest : (m : Monitor) → Over (over P) m → ShowsVerdicts (over P) (typed tree) m → states_in table ≤ m.states
  pub unique : (m : Monitor) → Over (over P) m → ShowsVerdicts (over P) (typed tree) m → m.states ≡ states_in table → Renumbered (over P) (monitor_of table) m
  pub canonical : (text' file' : List ℕ) (tree' : Tree) (table' : List ℕ) → TableOf text' P file' tree' table'
      → (table ≡ table') ↔ ((w : List ℕ) → Word (over P) w → (v : Verdict) → Judged (over P) (typed tree) w v ↔ Judged (over P) (typed tree') w v)

-- "a well-formed rule is refused only if it can leave more than 256 different remaining properties": by 11 exactly then, else by 10, where the
-- file's table is longer than the buffer
pub record TypedRefused (text : List ℕ) (P : ℕ) (file : List ℕ) (room number : ℕ) : Type 0 where
  pub tree : Tree
  pub fits : Fits text tree
  pub reads : Reads file (rule_of P tree)
  pub why : ((number ≡ 11) × MoreThan (over P) (typed tree) 256) ⊎ ((number ≡ 10) × (¬ MoreThan (over P) (typed tree) 256) × NoRoom file room)

-- what building the file that was written for a text answers, given so much room, with the output after it
abbrev pub TypedRight : List ℕ → ℕ → List ℕ → ℕ → List ℕ → Result ℕ Refusal → Type 0
TypedRight text P file room after (Ok n) = TypedTable text P file (take n after)
TypedRight text P file room after (Err r) = TypedRefused text P file room (code_of r).0
