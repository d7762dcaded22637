-- The machine's states as the code has them, and what a pass over a text has found.
use Rattle.std.specs.Prelude.{◌≡◌, true, false, List, [], ◌∷◌, ◌++◌, ℕ, ◌+◌, ◌≤◌, length, take, drop, Option, Some, None, Result, Ok, Err}
use Rattle.grammar.specs.Machine.{State, operand, operator, digit, within, dead, Move, run, seen, passed}
use Rattle.grammar.specs.Reading.{is_end}
use Rattle.text_scan.specs.declared.Mode.{Mode}
use Rattle.text_scan.specs.declared.Mode.TheVariants.{Operand, Operator, Digit, Rue, Ue, E, Alse, Lse, Se, Greater, DashGreater}
use Rattle.text_scan.specs.declared.Step.{Step}

abbrev pub state_of : Mode → ℕ → State
state_of Operand d = operand d
state_of Operator d = operator d
state_of Digit d = digit d
state_of Rue d = within 114 (117 ∷ 101 ∷ []) (operator d)
state_of Ue d = within 117 (101 ∷ []) (operator d)
state_of E d = within 101 [] (operator d)
state_of Alse d = within 97 (108 ∷ 115 ∷ 101 ∷ []) (operator d)
state_of Lse d = within 108 (115 ∷ 101 ∷ []) (operator d)
state_of Se d = within 115 (101 ∷ []) (operator d)
state_of Greater d = within 62 [] (operand d)
state_of DashGreater d = within 45 (62 ∷ []) (operand d)

abbrev pub sign_of : Option ℕ → List ℕ
sign_of None = []
sign_of (Some x) = x ∷ []

abbrev pub move_of : Step → Move
move_of r = record { state = state_of r.0 r.1; sign = sign_of r.2 }

-- the move m, as the code says it, from a depth
abbrev pub Moves : Move → ℕ → Option Step → Type 0
Moves m d None = m.state ≡ dead
Moves m d (Some r) = (m ≡ move_of r) × (r.1 ≤ d + 1)

-- the pass has come to i, in the state mode and deep, and has seen the signs found
pub record Scanning (s : List ℕ) (i : ℕ) (mode : Mode) (deep : ℕ) (found : List ℕ) : Type 0 where
  pub runs : run (operand 0) s ≡ run (state_of mode deep) (drop i s)
  pub sees : seen (operand 0) s ≡ found ++ seen (state_of mode deep) (drop i s)
  pub far : passed (operand 0) s ≡ i + passed (state_of mode deep) (drop i s)

-- a text with all its signs at the front of ts
pub record Whole (s ts : List ℕ) (n : ℕ) : Type 0 where
  pub ends : is_end (run (operand 0) s) ≡ true
  pub signs : take n ts ≡ seen (operand 0) s
  pub inside : n ≤ length s

-- a text that does not fit
pub record Fault (s : List ℕ) (p : ℕ) : Type 0 where
  pub fails : is_end (run (operand 0) s) ≡ false
  pub place : p ≡ passed (operand 0) s

-- what the pass over s finds
abbrev pub Found : List ℕ → List ℕ → Result ℕ ℕ → Type 0
Found s ts (Ok n) = Whole s ts n
Found s ts (Err p) = Fault s p
