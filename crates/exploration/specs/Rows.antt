-- How the walk's rows stand in arrays.
use Rattle.std.specs.Prelude.{List, [], ℕ, get_or}
use Rattle.sequences.specs.Tabulate.{tabulate}

-- the first `width` entries of a row, and the first `count` rows of an array
abbrev pub row_in : ℕ → List ℕ → List ℕ
row_in width row = tabulate width (λ e. get_or row e 0)

abbrev pub rows_in : ℕ → ℕ → List (List ℕ) → List (List ℕ)
rows_in width count rows = tabulate count (λ s. row_in width (get_or rows s []))
