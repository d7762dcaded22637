-- The breadth-first walk over the keys of residuals, with a limit on their number, as it is computed. Each key is a state, numbered in the
-- order in which it is met; a state's row has the number of its successor for each event from 0 upward, and 0 for an event that cannot happen.
use Rattle.std.specs.Prelude.{List, [], ◌∷◌, ◌++◌, Bool, true, false, ℕ, zero, suc, length, get_or, ltb}
use Rattle.sequences.specs.Tabulate.{least_below}
use Rattle.meaning.specs.Traces.{Alphabet}
use Rattle.meaning.specs.Monitors.{Monitor}
use Rattle.meaning.specs.declared.Verdict.{Verdict}

-- all keys met so far are within the limit, with what was found besides; or they are as many as the limit, and the key is one more
pub data Explored (Key A : Type 0) : Type 0 where
  within : List Key → A → Explored Key A
  beyond : List Key → Key → Explored Key A

module _ {Key : Type 0} (same : Key → Key → Bool) (start : Key) where
  -- the number of the first key that is the same as k, and how many keys there are if none is
  unfoldable pub locate : List Key → Key → ℕ
  locate keys k = least_below (length keys) (λ i. same (get_or keys i start) k)

  -- the number of k, which is added at the end if it is new
  unfoldable pub enter : ℕ → List Key → Key → Explored Key ℕ
  enter limit keys k =
      let n = length keys in
      let i = locate keys k in
      elim (ltb i n) [ true ↦ within keys i | false ↦ elim (ltb n limit) [ true ↦ within (keys ++ (k ∷ [])) n | false ↦ beyond keys k ] ]

module _ {Key : Type 0} (same : Key → Key → Bool) (step : Key → ℕ → Key) (start : Key) (Σ : Alphabet) (limit : ℕ) where
  -- the entry for event e in the row of the state whose key is `from`
  unfoldable pub visit : Key → ℕ → List Key → Explored Key ℕ
  visit from e keys = elim (Σ.possible e) [ true ↦ enter same start limit keys (step from e) | false ↦ within keys 0 ]

  -- j more entries of the row, from event e on
  unfoldable pub expand_from : ℕ → ℕ → Key → List Key → List ℕ → Explored Key (List ℕ)
  expand_from zero e from keys row = within keys row
  expand_from (suc j) e from keys row = elim (visit from e keys) [ within keys' i ↦ expand_from j (suc e) from keys' (row ++ (i ∷ [])) | beyond keys' k ↦ beyond keys' k ]

  -- the whole row
  unfoldable pub expand : Key → List Key → Explored Key (List ℕ)
  expand from keys = expand_from Σ.width 0 from keys []

  -- the rows of at most `turns` states, from state i on
  unfoldable pub explore_from : ℕ → ℕ → List Key → List (List ℕ) → Explored Key (List (List ℕ))
  explore_from zero i keys rows = within keys rows
  explore_from (suc turns) i keys rows =
      elim (ltb i (length keys)) [
        | true ↦ elim (expand (get_or keys i start) keys) [ within keys' row ↦ explore_from turns (suc i) keys' (rows ++ (row ∷ [])) | beyond keys' k ↦ beyond keys' k ]
        | false ↦ within keys rows
      ]

  -- all: as many turns as there can be keys are enough
  unfoldable pub explore : Explored Key (List (List ℕ))
  explore = explore_from limit 0 (start ∷ []) []

-- the monitor that has these rows
abbrev pub monitor_with : List (List ℕ) → (ℕ → Verdict) → Monitor
monitor_with rows verdict = record { states = length rows; start = 0; verdict = verdict; next = λ s e. get_or (get_or rows s []) e 0 }
