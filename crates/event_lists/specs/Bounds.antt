-- Bounds on the events of a list.
use Rattle.std.specs.Prelude.{List, ℕ, ◌≤◌, ◌<◌, get_or}

-- None of the first n events is above a number.
pub record NoneAbove (n : ℕ) (es : List ℕ) (top : ℕ) : Type 0 where
  pub under : (i : ℕ) → i < n → get_or es i 0 ≤ top
