-- Arrays by their entries below a bound, whatever else they hold.
use Rattle.std.specs.Prelude.{◌≡◌, List, [], ℕ, ◌<◌, get_or}

-- the entries below n are f 0, f 1, ..
pub record Entries {A : Type 0} (n : ℕ) (f : ℕ → A) (d : A) (row : List A) : Type 0 where
  pub entry : (i : ℕ) → i < n → get_or row i d ≡ f i

-- the entry by event and label, of events below w and labels below n
pub record Table (w n : ℕ) (f : ℕ → ℕ → ℕ) (rows : List (List ℕ)) : Type 0 where
  pub entry : (e y : ℕ) → e < w → y < n → get_or (get_or rows e []) y 0 ≡ f e y
