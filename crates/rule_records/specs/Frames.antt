-- The frame of a record.
use Rattle.std.specs.Prelude.{List, [], ◌∷◌, ℕ, ◌+◌, ◌-◌, length, ltb, Result, Ok, Err}
use Rattle.meaning.specs.Bytes.{u16_at}
use Rattle.meaning.specs.RuleFiles.{first_of}
use Rattle.meaning.specs.declared.Refusal.{Refusal}
use Rattle.meaning.specs.declared.Refusal.TheVariants.{Truncated, WrongLength}
use Rattle.rule_records.specs.declared.Frame.{Frame}

-- the checks of a record before its kind is looked at
unfoldable pub framed_of : List ℕ → ℕ → Result Frame Refusal
framed_of b p =
    first_of Err
    ((ltb (length b - p) 2, Truncated p) ∷ (ltb (u16_at b p) 2, WrongLength p) ∷ (ltb (length b - p) (2 + u16_at b p), Truncated p) ∷ [])
    (Ok (record { length = u16_at b p; kind = u16_at b (p + 2) }))
