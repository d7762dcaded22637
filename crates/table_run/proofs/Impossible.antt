-- C-14: "The table reader admits that only for the same events in every row, with at least one event left; otherwise
-- 14. Running such an event is refused by 12." Tables over one signal, by their rows.
use mathlib.Core.Path.{◌≡◌, refl}
use mathlib.Core.List.{List, [], ◌∷◌, ◌++◌, map}
use mathlib.Core.Bool.{true, false}
use Prim.Native.Nat.{ℕ}
use Rattle.meaning.specs.TableFiles.{is_table}
use Rattle.meaning.specs.Runs.{decided_from, run_of}
use Rattle.meaning.specs.declared.Verdict.TheVariants.{Violated}
use Rattle.meaning.specs.declared.Refusal.TheVariants.{WrongEvent}
use Rattle.std.proofs.Common.{Ok, Err, Some}

-- the record of a state with a verdict byte and two successors of one byte, or of 65,535
abbrev row : ℕ → List ℕ → List ℕ → List ℕ
row v a b = (7 ∷ 0 ∷ 1 ∷ 2 ∷ v ∷ []) ++ a ++ b

abbrev to : ℕ → List ℕ
to s = s ∷ 0 ∷ []

abbrev nowhere : List ℕ
nowhere = 255 ∷ 255 ∷ []

-- two states
abbrev rows : List ℕ → List ℕ → List ℕ
rows a b = (5 ∷ 0 ∷ 0 ∷ 2 ∷ 1 ∷ 2 ∷ 0 ∷ []) ++ a ++ b

-- event 1 cannot happen, and event 0 leads to a violated state
abbrev one : List ℕ
one = rows (row 0 (to 1) nowhere) (row 2 (to 1) nowhere)

-- that table; with 65,535 in the first row alone, in the second alone, and with no event left
pub tables : map is_table
    (one
    ∷ rows (row 0 (to 1) nowhere) (row 2 (to 1) (to 1))
    ∷ rows (row 0 (to 1) (to 1)) (row 2 (to 1) nowhere)
    ∷ rows (row 0 nowhere nowhere) (row 2 nowhere nowhere) ∷ [])
    ≡ true ∷ false ∷ false ∷ false ∷ []
unfolding is_table
tables = refl

-- 12 covers the whole list, also past a decided state
pub one-runs : run_of one 0 (0 ∷ 0 ∷ []) ≡ Ok (record { state = 1; verdict = Violated; decided = Some 1 })
unfolding is_table decided_from
one-runs = refl

pub one-refused : run_of one 0 (0 ∷ 0 ∷ 1 ∷ []) ≡ Err (WrongEvent 2)
unfolding is_table
one-refused = refl
