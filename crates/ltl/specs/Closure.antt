-- Warshall's closure of a relation between numbers: row x is the set of those to which x is related.
use Rattle.std.specs.Prelude.{true, false, List, map, ℕ, zero, suc, get_or}
use Rattle.std.specs.Int.Bits.{bit_or}
use Rattle.ltl.specs.Sets.{on}

abbrev pub row : List ℕ → ℕ → ℕ
row rows x = get_or rows x 0

-- a row with the ways through k, where `through` is the row of k
abbrev pub pass_row : ℕ → ℕ → ℕ → ℕ
pass_row k through r = elim (on r k) [ true ↦ bit_or through r | false ↦ r ]

abbrev pub pass : ℕ → List ℕ → List ℕ
pass k rows = map (pass_row k (row rows k)) rows

-- the ways through the numbers below n
abbrev pub closure : ℕ → List ℕ → List ℕ
closure zero rows = rows
closure (suc k) rows = pass k (closure k rows)
