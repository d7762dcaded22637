-- What the rounds ask of the rows of successors and of the groups so far.
use Rattle.std.specs.Prelude.{List, [], true, ℕ, ◌≤◌, ◌<◌, get_or}
use Rattle.meaning.specs.Traces.{Alphabet, Event}

-- every event below w can happen. So it is in the rounds: the events that cannot are led to one state before the first of them
abbrev pub unmasked : ℕ → Alphabet
unmasked w = record { width = w; possible = λ _. true }

-- the successors of a row at events that can happen are below n
pub record RowBelow (Σ : Alphabet) (n : ℕ) (row : List ℕ) : Type 0 where
  pub to : (e : ℕ) → Event Σ e → get_or row e 0 < n

-- and those of the first k rows
pub record RowsBelow (k : ℕ) (Σ : Alphabet) (n : ℕ) (rows : List (List ℕ)) : Type 0 where
  pub row : (s : ℕ) → s < k → RowBelow Σ n (get_or rows s [])

-- each of the first n states is in a group that is named by no later state
pub record Least (n : ℕ) (group : List ℕ) : Type 0 where
  pub least : (i : ℕ) → i < n → get_or group i 0 ≤ i
