-- "For LTL the verdicts are the same as over all infinite traces." Here a trace is any sequence of events, repeated or
-- not; each definition that ends in ∞ is that of meaning's Traces, Verdicts, Monitors or Demands with such traces for
-- lassos. No excluded middle is used, so "every one satisfies" is said as "none fails to" (¬ ¬): the two are the same
-- where truth is decided, as it is on a lasso.
use Rattle.std.specs.Prelude.{◌≡◌, ◌⊎◌, ◌↔◌, true, List, [], ◌∷◌, ◌++◌, ℕ, zero, suc, ◌≤◌, ◌<◌}
use Rattle.meaning.specs.Traces.{Alphabet, Event, is_event, Word}
use Rattle.meaning.specs.Formulas.{Sat}
use Rattle.meaning.specs.Verdicts.{NoneSatisfies, AllSatisfy, SameResidual, Judged, MoreThan}
use Rattle.meaning.specs.Monitors.{Monitor, Over, shows, Renumbered, BreadthFirst}
use Rattle.meaning.specs.RuleFiles.{Rule, rule_formula, alphabet_of, property_of}
use Rattle.meaning.specs.TableFiles.{is_table, alphabet_in, signals_in, states_in, monitor_of}
use Rattle.meaning.specs.Demands.{Reads}
use Rattle.meaning.specs.declared.Verdict.{Verdict}
use Rattle.meaning.specs.declared.Verdict.TheVariants.{Undecided, Satisfied, Violated, Moot}

-- ---- traces: σ i is the event at position i; the trace of a lasso ρ is `at ρ`

-- of events that can happen
abbrev pub Continuation∞ : Alphabet → (ℕ → ℕ) → Type 0
Continuation∞ Σ σ = (i : ℕ) → Event Σ (σ i)

-- a finite list put before a trace
abbrev pub prepend∞ : List ℕ → (ℕ → ℕ) → ℕ → ℕ
prepend∞ [] σ i = σ i
prepend∞ (e ∷ w) σ zero = e
prepend∞ (e ∷ w) σ (suc i) = prepend∞ w σ i

-- ---- verdicts

-- the property that a rule expresses: the infinite traces that satisfy it
abbrev pub Property∞ : Type 1
Property∞ = (ℕ → ℕ) → Type 0

abbrev pub property_of∞ : Rule → Property∞
property_of∞ r σ = Sat σ (rule_formula r) 0

-- "The remaining property after a list of events"
abbrev pub residual∞ : Property∞ → List ℕ → Property∞
residual∞ L w σ = L (prepend∞ w σ)

module _ (Σ : Alphabet) (L : Property∞) where
  -- "violated exactly if no continuation satisfies the rule"
  unfoldable pub NoneSatisfies∞ : List ℕ → Type 0
  NoneSatisfies∞ w = (σ : ℕ → ℕ) → Continuation∞ Σ σ → ¬ residual∞ L w σ

  -- "satisfied exactly if every continuation does": none fails to
  unfoldable pub AllSatisfy∞ : List ℕ → Type 0
  AllSatisfy∞ w = (σ : ℕ → ℕ) → Continuation∞ Σ σ → ¬ ¬ residual∞ L w σ

  -- "moot exactly if neither holds and no further events can bring either"
  unfoldable pub NeverDecided∞ : List ℕ → Type 0
  NeverDecided∞ w = (v : List ℕ) → Word Σ v → (¬ NoneSatisfies∞ (w ++ v)) × (¬ AllSatisfy∞ (w ++ v))

  -- the verdict after a list, "and otherwise undecided"
  abbrev pub Judged∞ : List ℕ → Verdict → Type 0
  Judged∞ w Violated = NoneSatisfies∞ w
  Judged∞ w Satisfied = AllSatisfy∞ w
  Judged∞ w Moot = NeverDecided∞ w
  Judged∞ w Undecided = (¬ NoneSatisfies∞ w) × (¬ AllSatisfy∞ w) × (¬ NeverDecided∞ w)

  -- two lists leave the same remaining property: no trace is in the one and not in the other
  unfoldable pub SameResidual∞ : List ℕ → List ℕ → Type 0
  SameResidual∞ u v = (σ : ℕ → ℕ) → Continuation∞ Σ σ → ¬ ¬ (residual∞ L u σ ↔ residual∞ L v σ)

  -- "more than n different remaining properties"
  pub record MoreThan∞ (n : ℕ) : Type 0 where
    pub list : ℕ → List ℕ
    pub word : (i : ℕ) → i ≤ n → Word Σ (list i)
    pub differ : (i j : ℕ) → i < j → j ≤ n → ¬ SameResidual∞ (list i) (list j)

  -- a monitor shows the verdict after every list, the empty one too
  unfoldable pub ShowsVerdicts∞ : Monitor → Type 0
  ShowsVerdicts∞ m = (w : List ℕ) → Word Σ w → Judged∞ w (shows m w)

-- ---- "for LTL the verdicts are the same as over all infinite traces"

-- after every list; and so are the remaining properties, and how many there are
pub record SameOverAll (r : Rule) : Type 0 where
  pub none : (w : List ℕ)
      → NoneSatisfies (alphabet_of r) (property_of r) w ↔ NoneSatisfies∞ (alphabet_of r) (property_of∞ r) w
  pub all : (w : List ℕ) → AllSatisfy (alphabet_of r) (property_of r) w ↔ AllSatisfy∞ (alphabet_of r) (property_of∞ r) w
  pub judged : (w : List ℕ) (v : Verdict)
      → Judged (alphabet_of r) (property_of r) w v ↔ Judged∞ (alphabet_of r) (property_of∞ r) w v
  pub same : (u v : List ℕ)
      → SameResidual (alphabet_of r) (property_of r) u v ↔ SameResidual∞ (alphabet_of r) (property_of∞ r) u v
  pub more : (n : ℕ) → MoreThan (alphabet_of r) (property_of r) n ↔ MoreThan∞ (alphabet_of r) (property_of∞ r) n
  -- "every continuation does", without ¬ ¬, where it is decided of each whether it does
  pub every : (w : List ℕ)
      → ((σ : ℕ → ℕ) → Continuation∞ (alphabet_of r) σ → Dec (residual∞ (property_of∞ r) w σ))
      → AllSatisfy (alphabet_of r) (property_of r) w
      ↔ ((σ : ℕ → ℕ) → Continuation∞ (alphabet_of r) σ → residual∞ (property_of∞ r) w σ)

-- ---- demands 2 and 3, with any infinite trace of possible events as a continuation

module _ (Built : List ℕ → List ℕ → Type 0) where
  pub record Demand2∞ (file : List ℕ) (rule : Rule) : Type 0 where
    pub verdicts : (table : List ℕ) → Built file table → (w : List ℕ) → Word (alphabet_of rule) w → (v : Verdict)
        → (shows (monitor_of table) w ≡ v) ↔ Judged∞ (alphabet_of rule) (property_of∞ rule) w v
    pub built_or_many : ((table : List ℕ) × Built file table) ⊎ MoreThan∞ (alphabet_of rule) (property_of∞ rule) 256
    pub not_both : (table : List ℕ) → Built file table → ¬ MoreThan∞ (alphabet_of rule) (property_of∞ rule) 256

  pub record Demand3∞ (file : List ℕ) (rule : Rule) (table : List ℕ) : Type 0 where
    pub form : is_table table ≡ true
    pub signals : signals_in table ≡ rule.signals
    pub events : (e : ℕ) → is_event (alphabet_in table (signals_in table)) e ≡ is_event (alphabet_of rule) e
    pub order : BreadthFirst (alphabet_of rule) (monitor_of table)
    pub verdicts : ShowsVerdicts∞ (alphabet_of rule) (property_of∞ rule) (monitor_of table)
    pub smallest : (m : Monitor) → Over (alphabet_of rule) m → ShowsVerdicts∞ (alphabet_of rule) (property_of∞ rule) m
        → states_in table ≤ m.states
    pub unique : (m : Monitor) → Over (alphabet_of rule) m → ShowsVerdicts∞ (alphabet_of rule) (property_of∞ rule) m
        → m.states ≡ states_in table → Renumbered (alphabet_of rule) (monitor_of table) m
    pub canonical : (file' : List ℕ) (rule' : Rule) (table' : List ℕ) → Reads file' rule' → Built file' table'
        → rule'.signals ≡ rule.signals → rule'.mask ≡ rule.mask
        → (table ≡ table')
        ↔ ((w : List ℕ) → Word (alphabet_of rule) w → (v : Verdict)
        → Judged∞ (alphabet_of rule) (property_of∞ rule) w v ↔ Judged∞ (alphabet_of rule') (property_of∞ rule') w v)

  pub record Demands∞ : Type 0 where
    pub demand_2 : (file : List ℕ) (rule : Rule) → Reads file rule → Demand2∞ file rule
    pub demand_3 : (file : List ℕ) (rule : Rule) (table : List ℕ) → Reads file rule → Built file table
        → Demand3∞ file rule table
