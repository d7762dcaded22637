-- The occurrences of signs that make nodes, and the node of each.
use Rattle.std.specs.Prelude.{List, [], ◌∷◌, cond, ℕ, ◌+◌, ◌*◌, get_or, ltb, eqb}
use Rattle.meaning.specs.RuleTexts.{kind_of, node}
use Rattle.meaning.specs.declared.Node.{Node}

-- a bracket is no node
abbrev pub mark : ℕ → ℕ
mark x = cond (eqb x 10) 0 (cond (eqb x 11) 0 1)

-- one node for each sign that is no bracket
unfoldable pub occurrences : List ℕ → ℕ
occurrences [] = 0
occurrences (x ∷ ts) = mark x + occurrences ts

-- the node of the sign x with the operands a and b
abbrev pub node_of : ℕ → ℕ → ℕ → Node
node_of x a b = node (kind_of x) (cond (ltb x 4) x a) b

-- the node of the occurrence that was laid with number i
abbrev pub node_in : List ℕ → ℕ → Node
node_in o i = node_of (get_or o (3 * i) 0) (get_or o (3 * i + 1) 0) (get_or o (3 * i + 2) 0)
