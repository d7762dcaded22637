-- Document 01's printed example of a refusal's line.
use mathlib.Core.Path.{◌≡◌, refl}
use mathlib.Core.List.{[], ◌∷◌}
use Rattle.meaning.specs.declared.Refusal.TheVariants.{WrongOperand}
use Rattle.text_pieces.specs.Decimal.{digits}
use Rattle.text_pieces.specs.RefusalLine.{refusal_text}

-- "refused 6 at 11"
pub refused-6 : refusal_text (WrongOperand 11) ≡ 114 ∷ 101 ∷ 102 ∷ 117 ∷ 115 ∷ 101 ∷ 100 ∷ 32 ∷ 54 ∷ 32 ∷ 97 ∷ 116 ∷ 32 ∷ 49 ∷ 49 ∷ 10 ∷ []
unfolding refusal_text digits
refused-6 = refl
