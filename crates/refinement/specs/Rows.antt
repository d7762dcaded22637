-- Rows of successors in which an event that cannot happen leads to state 0.
use Rattle.std.specs.Prelude.{◌≡◌, ◌≢◌, Bool, cond, List, ℕ, ◌≤◌, ◌<◌, length}
use Rattle.meaning.specs.Traces.{Alphabet}
use Rattle.moore.specs.Grouping.{entry}

-- rows' are the rows, with 0 for the successors of the first n states at event e, unless it can happen
pub record Column (can : Bool) (n e : ℕ) (rows rows' : List (List ℕ)) : Type 0 where
  pub long : length rows' ≡ length rows
  pub here : (s : ℕ) → s < n → entry rows' s e ≡ cond can (entry rows s e) 0
  pub other : (s k : ℕ) → s < n → k ≢ e → entry rows' s k ≡ entry rows s k

-- and so at each event below e
pub record Cleared (Σ : Alphabet) (e n : ℕ) (rows rows' : List (List ℕ)) : Type 0 where
  pub below : (s k : ℕ) → s < n → k < e → entry rows' s k ≡ cond (Σ.possible k) (entry rows s k) 0
  pub above : (s k : ℕ) → s < n → e ≤ k → entry rows' s k ≡ entry rows s k
