-- What the answer of a key entered says of the model.
use Rattle.std.specs.Prelude.{◌≡◌, Option, Some, None, Bool, List, ℕ, ◌≤◌, ◌<◌, length, get_or, eqb}
use Rattle.sequences.specs.Tabulate.{least_below}
use Rattle.walk.specs.Explore.{Explored, within, beyond, enter}

-- key i of the list is k
abbrev pub met_at : List ℕ → ℕ → ℕ → Bool
met_at keys k i = eqb (get_or keys i 0) k

-- the number of the key that is k, or none is
abbrev pub Finds : List ℕ → ℕ → Option ℕ → Type 0
Finds keys k (Some i) = (i < length keys) × (i ≡ least_below (length keys) (met_at keys k))
Finds keys k None = length keys ≤ least_below (length keys) (met_at keys k)

-- the model went beyond the limit
pub record Beyond {A : Type 0} (m : Explored ℕ A) : Type 0 where
  pub keys : List ℕ
  pub key : ℕ
  pub is : m ≡ beyond keys key

-- the model kept within the limit, with these keys and the answer i; or it went beyond
abbrev pub EnteredAs : Explored ℕ ℕ → List ℕ → Option ℕ → Type 0
EnteredAs m keys (Some i) = (m ≡ within keys i) × (i < 256)
EnteredAs m keys None = Beyond m

-- a key entered among others, whatever is read past them
abbrev pub Enters : List ℕ → ℕ → List ℕ → Option ℕ → Type 0
Enters ks k keys r = (s : ℕ) → EnteredAs (enter eqb s 256 ks k) keys r
