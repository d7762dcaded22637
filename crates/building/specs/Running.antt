-- What a run of a built table from state 0 says: demand 2's verdict, and the count of events after which it was first other than undecided.
-- And what stepping says, event by event.
use Rattle.std.specs.Prelude.{List, [], ◌∷◌, ℕ, ◌≤◌, ◌<◌, length, take}
use Rattle.meaning.specs.Traces.{Alphabet}
use Rattle.meaning.specs.Verdicts.{Property, Judged}
use Rattle.meaning.specs.Runs.{run_of}
use Rattle.meaning.specs.declared.Verdict.TheVariants.{Undecided}
use Rattle.std.specs.Prelude.{Result, Ok, Err, Option, Some, None}
use Rattle.meaning.specs.declared.Arrival.{Arrival}
use Rattle.meaning.specs.declared.Refusal.{Refusal}

module _ (Σ : Alphabet) (L : Property) (es : List ℕ) where
  abbrev pub CountRight : Option ℕ → Type 0
  CountRight (Some n) = (n ≤ length es) × (¬ Judged Σ L (take n es) Undecided) × ((k : ℕ) → k < n → Judged Σ L (take k es) Undecided)
  CountRight None = (k : ℕ) → k ≤ length es → Judged Σ L (take k es) Undecided

  -- the run is not refused
  abbrev pub RunRight : Result (Arrival ℕ) Refusal → Type 0
  RunRight (Ok a) = Judged Σ L es a.verdict × CountRight a.decided
  RunRight (Err r) = ⊥

  -- the last step is not refused, and shows demand 2's verdict after these events
  abbrev pub StepRight : Result (Arrival ℕ) Refusal → Type 0
  StepRight (Ok a) = Judged Σ L es a.verdict
  StepRight (Err r) = ⊥

-- one event further: a run over this event alone, from the state where the last one ended
abbrev pub step : List ℕ → Result (Arrival ℕ) Refusal → ℕ → Result (Arrival ℕ) Refusal
step table (Ok a) e = run_of table a.state (e ∷ [])
step table (Err r) e = Err r

unfoldable pub steps_from : List ℕ → Result (Arrival ℕ) Refusal → List ℕ → Result (Arrival ℕ) Refusal
steps_from table r [] = r
steps_from table r (e ∷ es) = steps_from table (step table r e) es

-- stepping through the events one at a time, from state 0, where a run over no event stands
abbrev pub steps : List ℕ → List ℕ → Result (Arrival ℕ) Refusal
steps table es = steps_from table (run_of table 0 []) es
