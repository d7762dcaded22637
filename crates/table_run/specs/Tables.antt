-- Where a run over bytes and counts may start, and what one event shows.
use Rattle.std.specs.Prelude.{List, cond, ℕ, ltb, Result, Ok, Err, Option, Some, None, ⊤}
use Rattle.meaning.specs.Runs.{counts_fit}
use Rattle.meaning.specs.declared.Refusal.{Refusal}
use Rattle.meaning.specs.declared.Refusal.TheVariants.{WrongState, WrongTable}
use Rattle.run_parts.specs.Parts.{decides_at}

-- whether a run over P signals and S states may start at s
abbrev pub admission : List ℕ → ℕ → ℕ → ℕ → Result ⊤ Refusal
admission t P S s = cond (counts_fit t P S) (cond (ltb s S) (Ok tt) (Err WrongState)) (Err WrongTable)

-- the count on the way from s to r by one event
abbrev pub shown_by : List ℕ → ℕ → ℕ → ℕ → Option ℕ
shown_by t P s r = cond (decides_at t P s) (Some 0) (cond (decides_at t P r) (Some 1) None)
