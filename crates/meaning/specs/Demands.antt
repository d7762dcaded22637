-- Demands 2 and 3 of the request, over the bytes of rule files and of tables.
use Rattle.std.specs.Prelude.{◌≡◌, ◌⊎◌, ◌↔◌, List, true, ℕ, ◌≤◌}
use Rattle.meaning.specs.Traces.{is_event, Word}
use Rattle.meaning.specs.Verdicts.{Judged, MoreThan}
use Rattle.meaning.specs.Monitors.{Monitor, Over, shows, ShowsVerdicts, Renumbered, BreadthFirst}
use Rattle.meaning.specs.RuleFiles.{Rule, alphabet_of, property_of, Judgement, judge}
use Rattle.meaning.specs.TableFiles.{is_table, alphabet_in, signals_in, states_in, monitor_of}
use Rattle.meaning.specs.declared.Verdict.{Verdict}

-- the file is well-formed, and the rule is what it says
abbrev pub Reads : List ℕ → Rule → Type 0
Reads file rule = judge file ≡ Judgement.Accepted rule

-- "A rule is built when neither reading its file nor building its table refused it": `Built file table` says that a builder, given a long
-- enough buffer, built the rule file and that this is its table.
module _ (Built : List ℕ → List ℕ → Type 0) where
  -- Demand 2. "After every list of events from the start, the built table shows violated exactly if no continuation satisfies the rule,
  -- satisfied exactly if every continuation does, moot exactly if neither holds and no further events can bring either, and otherwise undecided.
  -- Given a long enough buffer, a well-formed rule is refused only if it can leave more than 256 different remaining properties."
  pub record Demand2 (file : List ℕ) (rule : Rule) : Type 0 where
    pub verdicts : (table : List ℕ) → Built file table → (w : List ℕ) → Word (alphabet_of rule) w → (v : Verdict)
        → (shows (monitor_of table) w ≡ v) ↔ Judged (alphabet_of rule) (property_of rule) w v
    pub built_or_many : ((table : List ℕ) × Built file table) ⊎ MoreThan (alphabet_of rule) (property_of rule) 256
    pub not_both : (table : List ℕ) → Built file table → ¬ MoreThan (alphabet_of rule) (property_of rule) 256

  -- Demand 3, of one built rule. "Our table has document 01's form and order and shows, after every list of events, the empty one too, the verdict
  -- that demand 2 gives. Any table set beside it, of any make and size, over as many signals, that shows these same verdicts after every list from
  -- its start has at least as many states as the number written in ours; with exactly as many it is ours renumbered. Two built rules over equally
  -- many signals have the same table (the same length and the same byte in every place) exactly if demand 2 gives both the same verdict after every list."
  -- C-14: "Rules compared must have the same mask. A table of another make may write anything for impossible events: with equally many states it is
  -- ours renumbered, save for its successors there." Our table says itself which events can happen.
  pub record Demand3 (file : List ℕ) (rule : Rule) (table : List ℕ) : Type 0 where
    pub form : is_table table ≡ true
    pub signals : signals_in table ≡ rule.signals
    pub events : (e : ℕ) → is_event (alphabet_in table (signals_in table)) e ≡ is_event (alphabet_of rule) e
    pub order : BreadthFirst (alphabet_of rule) (monitor_of table)
    pub verdicts : ShowsVerdicts (alphabet_of rule) (property_of rule) (monitor_of table)
    pub smallest : (m : Monitor) → Over (alphabet_of rule) m → ShowsVerdicts (alphabet_of rule) (property_of rule) m → states_in table ≤ m.states
    pub unique : (m : Monitor) → Over (alphabet_of rule) m → ShowsVerdicts (alphabet_of rule) (property_of rule) m → m.states ≡ states_in table
        → Renumbered (alphabet_of rule) (monitor_of table) m
    pub canonical : (file' : List ℕ) (rule' : Rule) (table' : List ℕ) → Reads file' rule' → Built file' table' → rule'.signals ≡ rule.signals → rule'.mask ≡ rule.mask
        → (table ≡ table')
        ↔ ((w : List ℕ) → Word (alphabet_of rule) w → (v : Verdict) → Judged (alphabet_of rule) (property_of rule) w v ↔ Judged (alphabet_of rule') (property_of rule') w v)

  -- both, "one claim over all lists and all tables, not one for each event, state or call"
  pub record Demands : Type 0 where
    pub demand_2 : (file : List ℕ) (rule : Rule) → Reads file rule → Demand2 file rule
    pub demand_3 : (file : List ℕ) (rule : Rule) (table : List ℕ) → Reads file rule → Built file table → Demand3 file rule table
