-- The events of a list that are in a mask.
use Rattle.std.specs.Prelude.{List, Bool, cond, not, ℕ, eqb, ltb, length, get_or, Option, Some, None}
use Rattle.sequences.specs.Tabulate.{all_below, least_below}
use Rattle.meaning.specs.Bytes.{bit}

-- event i of the list is in the mask
abbrev pub in_mask : ℕ → List ℕ → ℕ → Bool
in_mask m es i = eqb (bit (get_or es i 0) m) 1

-- all events of the list are
abbrev pub all_in : ℕ → List ℕ → Bool
all_in m es = all_below (length es) (in_mask m es)

-- the index of the first that is not, and the length where all are
abbrev pub first_outside : ℕ → List ℕ → ℕ
first_outside m es = least_below (length es) (λ i. not (in_mask m es i))

-- the same, if there is one
abbrev pub found_outside : ℕ → List ℕ → Option ℕ
found_outside m es = cond (ltb (first_outside m es) (length es)) (Some (first_outside m es)) None
