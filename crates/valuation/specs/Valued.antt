-- The rules that can be valued, and what their nodes give.
use Rattle.std.specs.Prelude.{List, ℕ, ◌≤◌, length, take}
use Rattle.meaning.specs.declared.Node.{Node}
use Rattle.ltl.specs.Nodes.{splits, temporals}
use Rattle.ltl.specs.Valuation as ltl

-- nodes that can be valued: of 1 to 64 at most 7 are temporal; nothing else is asked of them
pub record RuleNodes (nodes : List Node) : Type 0 where
  pub some : 1 ≤ length nodes
  pub few : length nodes ≤ 64
  pub temporal : temporals (splits nodes) ≤ 7

-- the first `count` of the nodes, of which at most 7 are temporal; nothing else is asked of them
pub record Valuable (count : ℕ) (nodes : List Node) : Type 0 where
  pub some : 1 ≤ count
  pub few : count ≤ 64
  pub temporal : temporals (splits (take count nodes)) ≤ 7

-- what the nodes give by event and next label
abbrev pub profile_at : List Node → ℕ → ℕ → ℕ
profile_at nodes e y = ltl.profile_of (ltl.valued e y (splits nodes))

abbrev pub fairs_at : List Node → ℕ → ℕ → ℕ
fairs_at nodes e y = (ltl.valued e y (splits nodes)).fairs
