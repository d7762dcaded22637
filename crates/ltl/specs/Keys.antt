-- The residual system of a list of nodes, computed: tables made once, and the key after each event, a set of profiles.
use Rattle.std.specs.Prelude.{Bool, List, [], ℕ, ◌^◌, get_or, eqb}
use Rattle.sequences.specs.Tabulate.{tabulate}
use Rattle.meaning.specs.Traces.{Alphabet}
use Rattle.ltl.specs.Nodes.{Split, temporals}
use Rattle.ltl.specs.Valuation.{Valued, valued, profile_of}
use Rattle.ltl.specs.Residuals.{start_from, step_from, whole_set}

-- how many labels there are, the profile by event and next label, and the profiles of all continuations
pub record Tables : Type 0 where
  pub labels : ℕ
  pub profiles : List (List ℕ)
  pub whole : ℕ

-- the entry by event and next label
abbrev pub look : List (List ℕ) → ℕ → ℕ → ℕ
look table e y = get_or (get_or table e []) y 0

-- what f reads off the valuation, by event and next label, of n labels
abbrev pub table_of : Alphabet → List Split → ℕ → (Valued → ℕ) → List (List ℕ)
table_of Σ ns n f = tabulate Σ.width (λ e. tabulate n (λ y. f (valued e y ns)))

-- m temporal nodes, n labels
abbrev pub tables_from : Alphabet → ℕ → ℕ → List (List ℕ) → List (List ℕ) → Tables
tables_from Σ m n profiles fairs = record { labels = n; profiles = profiles; whole = whole_set Σ n (look profiles) m (look fairs) }

unfoldable pub tables_of : Alphabet → List Split → Tables
tables_of Σ ns =
    tables_from Σ (temporals ns) (2 ^ temporals ns) (table_of Σ ns (2 ^ temporals ns) profile_of) (table_of Σ ns (2 ^ temporals ns) (λ v. v.fairs))

-- before any event
abbrev pub start_key : Tables → ℕ
start_key t = start_from t.labels t.whole

-- after one event more
abbrev pub step_key : Tables → ℕ → ℕ → ℕ
step_key t A e = step_from t.labels (look t.profiles) t.whole A e

-- no continuation satisfies the rule; every one does
abbrev pub empty_key : ℕ → Bool
empty_key A = eqb A 0

abbrev pub full_key : Tables → ℕ → Bool
full_key t A = eqb A t.whole
