-- The longest table has 9,479 bytes: 256 states over four signals.
use mathlib.Core.Path.{◌≡◌}
use mathlib.Core.List.{List}
use mathlib.Core.Bool.{true}
use Prim.Native.Nat.{ℕ, ◌*◌, ◌^◌, ◌≤◌}
use native.Mathlib.Nat.{mul-le-mul}
use native.Mathlib.Omega.{arith}
use lib.ListN.{length}
use lib.Pow.{pow_mono}
use borrow.Author.Tests.{eqb-true}
use Rattle.sequences.proofs.Tests.{holds}
use Rattle.meaning.specs.TableFiles.{signals_in, states_in, row_length, table_length, header_tests, is_table}
use Rattle.table_layout.proofs.Form.{table-header, signals-few, states-few}

pub table-longest : (t : List ℕ) → is_table t ≡ true → length t ≤ 9479
table-longest t form =
    let tests = table-header t form in
    let size : length t ≡ table_length (signals_in t) (states_in t) = eqb-true (length t) (table_length (signals_in t) (states_in t)) (holds (header_tests t) tests 7) in
    let row : 2 ^ signals_in t ≤ 2 ^ 4 = pow_mono (signals-few t tests) in
    let width : row_length (signals_in t) ≤ 37 = omega arith in
    let rows : states_in t * row_length (signals_in t) ≤ 256 * 37 = mul-le-mul (states-few t tests) width in
    omega arith
