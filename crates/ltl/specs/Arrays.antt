-- The tables of the residual system (Keys), as arrays hold them: the profile by event and next label, and which profiles there are.
use Rattle.std.specs.Prelude.{◌≡◌, List, [], Bool, false, ℕ, ◌+◌, ◌≤◌, ◌<◌, get_or}
use Rattle.ltl.specs.Sets.{on}
use Rattle.ltl.specs.Keys.{Tables, look}

-- n labels; events below `width`
pub record TablesIn (width n : ℕ) (t : Tables) (profiles : List (List ℕ)) (whole : List Bool) : Type 0 where
  pub labels : t.labels ≡ n
  pub some : 1 ≤ n
  pub few : n ≤ 128
  pub profile : (e y : ℕ) → e < width → y < n → get_or (get_or profiles e []) y 0 ≡ look t.profiles e y
  pub small : (e y : ℕ) → e < width → y < n → get_or (get_or profiles e []) y 0 < n + n
  pub member : (p : ℕ) → p < 256 → get_or whole p false ≡ on t.whole p
  pub past : (p : ℕ) → n + n ≤ p → on t.whole p ≡ false
