-- What a successor may be.
use Rattle.std.specs.Prelude.{Bool, cond, ℕ, ltb, eqb}
use Rattle.meaning.specs.TableFiles.{no_successor}

-- one of the S states where its event can happen, and 65,535 where it cannot
abbrev pub fits_by : Bool → ℕ → ℕ → Bool
fits_by possible S to = cond possible (ltb to S) (eqb to no_successor)
