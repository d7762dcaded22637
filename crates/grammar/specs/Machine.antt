-- A machine that passes over the bytes of a text: what it awaits, and the signs that it saw.
use Rattle.std.specs.Prelude.{Bool, true, false, cond, List, [], ◌∷◌, ◌++◌, ℕ, zero, suc, eqb}

-- an operand at a depth of brackets, a sign, a signal's digit, the byte b and then w within a sign, nothing
pub data State : Type 0 where
  operand operator digit : ℕ → State
  within : ℕ → List ℕ → State → State
  dead : State

pub record Move : Type 0 where
  pub state : State
  pub sign : List ℕ

pub record Row : Type 0 where
  pub byte : ℕ
  pub move : Move

abbrev pub row : ℕ → State → List ℕ → Row
row b q t = record { byte = b; move = record { state = q; sign = t } }

abbrev pub lost : Move
lost = record { state = dead; sign = [] }

-- the move at a byte, by the first row that has it
abbrev pub look : List Row → ℕ → Move
look [] b = lost
look (r ∷ rs) b = cond (eqb b r.byte) r.move (look rs b)

abbrev pub closed : ℕ → State
closed zero = dead
closed (suc d) = operator d

abbrev pub resume : List ℕ → State → State
resume [] q = q
resume (b ∷ w) q = within b w q

abbrev pub rows : State → List Row
rows (operand d) =
    row 32 (operand d) [] ∷ (row 33 (operand d) (6 ∷ []) ∷ (row 88 (operand d) (7 ∷ []) ∷ (row 70 (operand d) (8 ∷ []) ∷ (row 71 (operand d) (9 ∷ [])
    ∷ (row 40 (operand (suc d)) (10 ∷ []) ∷ (row 115 (digit d) [] ∷ (row 116 (within 114 (117 ∷ (101 ∷ [])) (operator d)) (4 ∷ [])
    ∷ (row 102 (within 97 (108 ∷ (115 ∷ (101 ∷ []))) (operator d)) (5 ∷ []) ∷ []))))))))
rows (operator d) =
    row 32 (operator d) [] ∷ (row 41 (closed d) (11 ∷ []) ∷ (row 85 (operand d) (12 ∷ []) ∷ (row 38 (operand d) (13 ∷ []) ∷ (row 94 (operand d) (14 ∷ [])
    ∷ (row 124 (operand d) (15 ∷ []) ∷ (row 45 (within 62 [] (operand d)) (16 ∷ []) ∷ (row 60 (within 45 (62 ∷ []) (operand d)) (17 ∷ []) ∷ [])))))))
rows (digit d) = row 48 (operator d) (0 ∷ []) ∷ (row 49 (operator d) (1 ∷ []) ∷ (row 50 (operator d) (2 ∷ []) ∷ (row 51 (operator d) (3 ∷ []) ∷ [])))
rows (within b w q) = row b (resume w q) [] ∷ []
rows dead = []

abbrev pub step : State → ℕ → Move
step q b = look (rows q) b

unfoldable pub run : State → List ℕ → State
run q [] = q
run q (b ∷ s) = run (step q b).state s

unfoldable pub seen : State → List ℕ → List ℕ
seen q [] = []
seen q (b ∷ s) = (step q b).sign ++ seen (step q b).state s

abbrev pub is_dead : State → Bool
is_dead (operand d) = false
is_dead (operator d) = false
is_dead (digit d) = false
is_dead (within b w q) = false
is_dead dead = true

-- how many bytes it passes before it is lost
unfoldable pub passed : State → List ℕ → ℕ
passed q [] = 0
passed q (b ∷ s) = let r = suc (passed (step q b).state s) in cond (is_dead (step q b).state) 0 r
