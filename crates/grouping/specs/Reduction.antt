-- What reducing a machine returns and leaves in the arrays that it is lent.
use Rattle.std.specs.Prelude.{◌≡◌, List, ◌++◌, map, ℕ, ◌≤◌, ◌<◌, length, drop, replicate}
use Rattle.meaning.specs.Traces.{Alphabet}
use Rattle.moore.specs.Grouping.{grouping}
use Rattle.moore.specs.Quotient.{size, verdicts, quotient_rows}

-- a row of successors in an array of sixteen, with 0 past the last of them
abbrev pub padded : List ℕ → List ℕ
padded row = row ++ drop (length row) (replicate 16 0)

-- r groups of the n states, the verdict byte and the row of successors of each from the front of the arrays, what was there past them
pub record Reduction (Σ : Alphabet) (n : ℕ) (rows : List (List ℕ)) (classes bytes : List ℕ) (to : List (List ℕ)) (r : ℕ) (bytes' : List ℕ) (to' : List (List ℕ)) : Type 0 where
  pub count : r ≡ size n (grouping Σ n rows classes)
  pub some : 0 < r
  pub fewer : r ≤ n
  pub verdicts_are : bytes' ≡ verdicts Σ n rows classes (grouping Σ n rows classes) ++ drop r bytes
  pub rows_are : to' ≡ map padded (quotient_rows Σ n rows (grouping Σ n rows classes)) ++ drop r to
