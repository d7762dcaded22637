-- A text with a line end that does not belong there.
use mathlib.Core.Path.{◌≡◌, refl}
use mathlib.Core.List.{[], ◌∷◌}
use Rattle.meaning.specs.declared.Refusal.TheVariants.{WrongText}
use Rattle.text_pieces.specs.Decimal.{digits}
use Rattle.text_pieces.specs.RefusalLine.{refusal_text}
use Rattle.fault_text.specs.Fault.{shown, fault_text}

-- "refused 15 at 2", "s0?", "  ^"
pub refused-15 : fault_text (WrongText 2) (115 ∷ 48 ∷ 10 ∷ [])
    ≡ 114 ∷ 101 ∷ 102 ∷ 117 ∷ 115 ∷ 101 ∷ 100 ∷ 32 ∷ 49 ∷ 53 ∷ 32 ∷ 97 ∷ 116 ∷ 32 ∷ 50 ∷ 10 ∷ 115 ∷ 48 ∷ 63 ∷ 10 ∷ 32 ∷ 32 ∷ 94 ∷ 10 ∷ []
unfolding fault_text shown refusal_text digits
refused-15 = refl
