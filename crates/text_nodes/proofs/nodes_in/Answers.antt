-- `text_nodes::nodes_in` meets its contract.
use native.Mathlib.Omega.{arith}
use Rattle.sequences.proofs.Loops.{filled_more}
use Rattle.text_nodes.proofs.Laws.{filled-front}
use Rattle.text_nodes.proofs.nodes_in.Goals as goal

pub loop-i-preserved : goal.loop-i-preserved
loop-i-preserved c = filled_more c.loop-i.invariant c.node_of.ensures (omega arith)

pub returns : goal.returns
returns c = filled-front c.args.count c.loop-i.invariant (omega arith)
