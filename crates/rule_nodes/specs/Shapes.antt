-- The shape of a kind of node, and the node in a record of its kind.
use Rattle.std.specs.Prelude.{List, Bool, cond, ℕ, ◌+◌, get_or, leb}
use Rattle.meaning.specs.RuleFiles.{body_length, upper_at, operands, temporal}
use Rattle.meaning.specs.declared.Node.{Node}
use Rattle.rule_nodes.specs.declared.Shape.{Shape}

abbrev pub shape : ℕ → ℕ → Bool → Shape
shape body operands temporal = record { body = body; operands = operands; temporal = temporal }

-- of the node kind k
abbrev pub shape_of : ℕ → Shape
shape_of k = shape (body_length k) (operands k) (temporal k)

-- the node of kind k whose record, of length l, is at p
abbrev pub node_of : List ℕ → ℕ → ℕ → ℕ → Node
node_of b p k l =
    record {
      kind = k;
      a = cond (leb 1 (body_length k)) (get_or b (p + 4) 0) 0;
      b = cond (leb 2 (body_length k)) (get_or b (p + 5) 0) 0;
      upper = upper_at b p k l;
    }
