-- The events that can happen in a table, as a mask.
use Rattle.std.specs.Prelude.{◌≡◌, List, Bool, ℕ, ◌^◌, ◌<◌, eqb}
use Rattle.meaning.specs.Bytes.{bit}
use Rattle.meaning.specs.Traces.{is_event}
use Rattle.meaning.specs.TableFiles.{alphabet_in}

-- The first n bits of the mask m are the answers of a test, and it has no others.
pub record Marked (n : ℕ) (f : ℕ → Bool) (m : ℕ) : Type 0 where
  pub small : m < 2 ^ n
  pub bits : (i : ℕ) → i < n → eqb (bit i m) 1 ≡ f i

-- The mask m has exactly the events that can happen in the table t over P signals.
pub record MaskIn (t : List ℕ) (P m : ℕ) : Type 0 where
  pub bits : (e : ℕ) → eqb (bit e m) 1 ≡ is_event (alphabet_in t P) e
