-- The least states of the groups, and what making the machine of the groups computes of one state.
use Rattle.std.specs.Prelude.{◌≡◌, cond, List, ℕ, ◌<◌, get_or}
use Rattle.sequences.specs.Tabulate.{tabulate}
use Rattle.meaning.specs.Traces.{Alphabet}
use Rattle.moore.specs.Grouping.{entry}
use Rattle.moore.specs.Quotient.{leader, size, closed, verdict_byte}
use Rattle.grouping.specs.Reduction.{padded}

-- r groups, with the least state of each in ascending order
pub record Leaders (n : ℕ) (group : List ℕ) (r : ℕ) (least : List ℕ) : Type 0 where
  pub count : r ≡ size n group
  pub at : (q : ℕ) → q < r → get_or least q 0 ≡ leader n group q

-- the verdict byte of the group of which s is the least state
unfoldable pub verdict_at : Alphabet → List (List ℕ) → List ℕ → List ℕ → ℕ → ℕ
verdict_at Σ rows classes group s = verdict_byte (get_or classes s 0) (closed Σ rows group s)

-- its row of successors, where numbers has the number of the group of each state; 0 where an event cannot happen
unfoldable pub row_at : Alphabet → List (List ℕ) → List ℕ → ℕ → List ℕ
row_at Σ rows numbers s = padded (tabulate Σ.width (λ e. cond (Σ.possible e) (get_or numbers (entry rows s e) 0) 0))
