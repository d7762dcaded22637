-- The smallest table of a residual system, as it is computed: the walk over the keys, the classes of the keys, the groups of states that no
-- word tells apart, and the bytes of the quotient.
use Rattle.std.specs.Prelude.{List, cond, ℕ, length, get_or}
use Rattle.sequences.specs.Tabulate.{tabulate}
use Rattle.meaning.specs.Traces.{Alphabet}
use Rattle.meaning.specs.Verdicts.{Property}
use Rattle.residuals.specs.System.{System}
use Rattle.walk.specs.Explore.{within, beyond, explore}
use Rattle.moore.specs.Grouping.{grouping}
use Rattle.moore.specs.Quotient.{size, verdicts, quotient_rows}
use Rattle.table_bytes.specs.Written.{table_bytes}

-- "S (two bytes), the number of states, 1 to 256": as many different remaining properties a rule may leave
abbrev pub most_states : ℕ
most_states = 256

-- the bytes of a table; or there are more remaining properties than a rule may leave
pub data Outcome : Type 0 where
  Table : List ℕ → Outcome
  TooMany : Outcome

-- the table over P signals of the smallest monitor of the machine with n states and these rows and classes
unfoldable pub reduced_bytes : Alphabet → ℕ → ℕ → List (List ℕ) → List ℕ → List ℕ
reduced_bytes Σ P n rows classes =
    let group = grouping Σ n rows classes in
    table_bytes Σ P (size n group) (verdicts Σ n rows classes group) (quotient_rows Σ n rows group)

module _ {Σ : Alphabet} {L : Property} (S : System Σ L) where
  -- the class of a key: 2 if no continuation satisfies the property, 1 if every one does, 0 if neither
  unfoldable pub class_of : S.Key → ℕ
  class_of k = let r : ℕ = cond (S.full k) 1 0 in cond (S.empty k) 2 r

  unfoldable pub classes_of : List S.Key → List ℕ
  classes_of keys = tabulate (length keys) (λ i. class_of (get_or keys i S.start))

  -- the table over P signals
  unfoldable pub table_of : ℕ → Outcome
  table_of P =
      elim (explore S.same S.step S.start Σ most_states) [
        | within keys rows ↦ Table (reduced_bytes Σ P (length rows) rows (classes_of keys))
        | beyond keys k ↦ TooMany
      ]
