-- A residual system decides of each list of events, by a key that it steps from event to event, what its remaining property is like.
-- All above it, the walk, the grouping, the numbering and the demands, rests on this record alone.
use Rattle.std.specs.Prelude.{◌↔◌, List, [], ◌∷◌, Bool, ℕ, T}
use Rattle.meaning.specs.Traces.{Alphabet, Word}
use Rattle.meaning.specs.Verdicts.{Property, NoneSatisfies, AllSatisfy, SameResidual}

-- the key after a list, from a key on
abbrev pub key_after {ℓ} : {Key : Type ℓ} → (Key → ℕ → Key) → Key → List ℕ → Key
key_after step k [] = k
key_after step k (e ∷ w) = key_after step (step k e) w

pub record System (Σ : Alphabet) (L : Property) : Type 1 where
  pub Key : Type 0
  pub start : Key
  pub step : Key → ℕ → Key
  pub same : Key → Key → Bool
  pub empty : Key → Bool
  pub full : Key → Bool
  pub same_is : (u v : List ℕ) → Word Σ u → Word Σ v → T (same (key_after step start u) (key_after step start v)) ↔ SameResidual Σ L u v
  pub empty_is : (w : List ℕ) → Word Σ w → T (empty (key_after step start w)) ↔ NoneSatisfies Σ L w
  pub full_is : (w : List ℕ) → Word Σ w → T (full (key_after step start w)) ↔ AllSatisfy Σ L w
