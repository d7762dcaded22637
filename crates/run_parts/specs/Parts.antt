-- What a run reads.
use Rattle.std.specs.Prelude.{◌≡◌, List, Bool, ℕ, ◌+◌, ◌*◌, ◌≤◌, ◌<◌, length, get_or}
use Rattle.meaning.specs.TableFiles.{verdict_of, verdict_byte, successor}
use Rattle.meaning.specs.Runs.{decides}

-- whether a state shows a verdict other than undecided
abbrev pub decides_at : List ℕ → ℕ → ℕ → Bool
decides_at t P s = decides (verdict_of (verdict_byte t P s))

-- The rows, as far as they go, hold the successors, 16 to a state.
pub record Copied (t : List ℕ) (P : ℕ) (rows : List ℕ) : Type 0 where
  pub there : (s e : ℕ) → e ≤ 15 → 16 * s + e < length rows → get_or rows (16 * s + e) 0 ≡ successor t P s e
