-- `text_nodes::nodes_in` meets its contract.
use lib.ListN.{replicate}
use Rattle.sequences.proofs.Loops.{Filled}
use Rattle.meaning.specs.RuleTexts.{node}
use Rattle.text_nodes.specs.Occurrences.{node_in}
use Rattle.text_nodes.proofs.nodes_in.Given as goal

abbrev pub invariant-loop-i : goal.invariant-loop-i
invariant-loop-i l = Filled l.i (node_in l.laid) (replicate 64 (node 0 0 0)) l.nodes
