-- The verdict after a list of events, judged by continuations and never read from a table.
use Rattle.std.specs.Prelude.{◌↔◌, List, ◌++◌, ℕ, ◌≤◌, ◌<◌}
use Rattle.meaning.specs.Traces.{Alphabet, Word, Lasso, prepend, Continuation}
use Rattle.meaning.specs.declared.Verdict.{Verdict}
use Rattle.meaning.specs.declared.Verdict.TheVariants.{Undecided, Satisfied, Violated, Moot}

-- the property that a rule expresses: the traces that satisfy it
abbrev pub Property : Type 1
Property = Lasso → Type 0

-- "The remaining property after a list of events is the set of continuations that, put after the list, satisfy the rule." Field term: residual.
abbrev pub residual : Property → List ℕ → Property
residual L w ρ = L (prepend w ρ)

module _ (Σ : Alphabet) (L : Property) where
  -- "violated exactly if no continuation satisfies the rule"
  unfoldable pub NoneSatisfies : List ℕ → Type 0
  NoneSatisfies w = (ρ : Lasso) → Continuation Σ ρ → ¬ residual L w ρ

  -- "satisfied exactly if every continuation does"
  unfoldable pub AllSatisfy : List ℕ → Type 0
  AllSatisfy w = (ρ : Lasso) → Continuation Σ ρ → residual L w ρ

  -- "moot exactly if neither holds and no further events can bring either": v is the list of further events, the empty one too
  unfoldable pub NeverDecided : List ℕ → Type 0
  NeverDecided w = (v : List ℕ) → Word Σ v → (¬ NoneSatisfies (w ++ v)) × (¬ AllSatisfy (w ++ v))

  -- the verdict that demand 2 gives after a list, "and otherwise undecided"
  abbrev pub Judged : List ℕ → Verdict → Type 0
  Judged w Violated = NoneSatisfies w
  Judged w Satisfied = AllSatisfy w
  Judged w Moot = NeverDecided w
  Judged w Undecided = (¬ NoneSatisfies w) × (¬ AllSatisfy w) × (¬ NeverDecided w)

  -- two lists leave the same remaining property
  unfoldable pub SameResidual : List ℕ → List ℕ → Type 0
  SameResidual u v = (ρ : Lasso) → Continuation Σ ρ → residual L u ρ ↔ residual L v ρ

  -- "more than n different remaining properties", "counted over all lists, the empty one too": n + 1 lists that leave pairwise different ones
  pub record MoreThan (n : ℕ) : Type 0 where
    pub list : ℕ → List ℕ
    pub word : (i : ℕ) → i ≤ n → Word Σ (list i)
    pub differ : (i j : ℕ) → i < j → j ≤ n → ¬ SameResidual (list i) (list j)
