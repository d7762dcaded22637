-- Trees that have each sign in its place: an operand at a leaf, a prefix before a tree, a binary sign between two.
use Rattle.std.specs.Prelude.{◌≤◌, ◌<◌}
use Rattle.meaning.specs.Grammar.{Tree, leaf, pre, bin}

abbrev pub Signs : Tree → Type 0
Signs (leaf x) = x < 6
Signs (pre x t) = (6 ≤ x) × (x < 10) × Signs t
Signs (bin x s t) = (12 ≤ x) × (x < 18) × Signs s × Signs t
