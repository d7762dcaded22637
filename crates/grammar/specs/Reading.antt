-- Reading a text: what the machine and the descent find.
use Rattle.std.specs.Prelude.{Bool, true, false, cond, List, ℕ, zero, suc, ◌+◌, ◌*◌, length}
use Rattle.meaning.specs.Grammar.{Tree, Parsed, Fitting, Outside}
use Rattle.grammar.specs.Machine.{State, operand, operator, digit, within, dead, run, seen, passed}
use Rattle.grammar.specs.Descent.{level_f}

-- an operator may stand here, outside all brackets
abbrev pub is_end : State → Bool
is_end (operand d) = false
is_end (operator zero) = true
is_end (operator (suc d)) = false
is_end (digit d) = false
is_end (within b w q) = false
is_end dead = false

-- the tree of signs, by the descent at the loosest level
unfoldable pub tree_of : List ℕ → Tree
tree_of ts = (level_f (16 * length ts + 14) 6 ts).tree

unfoldable pub parsed_of : List ℕ → Parsed
parsed_of s = cond (is_end (run (operand 0) s)) (Fitting (tree_of (seen (operand 0) s))) (Outside (passed (operand 0) s))
