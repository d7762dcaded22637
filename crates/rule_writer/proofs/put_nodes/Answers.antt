-- `rule_writer::put_nodes` meets its contract.
use Rattle.std.proofs.Common.{arith, refl, sym}
use Rattle.meaning.specs.RuleTexts.{nodes_bytes}
use Rattle.text_pieces.proofs.Laws.{put-none, put-more, put_is, put-length}
use Rattle.rule_writer.proofs.Laws.{bytes_take, bytes-within}
use Rattle.rule_writer.proofs.put_nodes.Goals as goal

pub loop-node-init : goal.loop-node-init
unfolding nodes_bytes
loop-node-init c = put-none refl

pub put_node-at-requires : goal.put_node-at-requires
put_node-at-requires c = (
  c.requires.kinds.kind c.loop-node.node-index c.loop-node-test.true,
  omega (arith, put-length c.loop-node.invariant, bytes-within c.args.nodes.now c.loop-node.node-index c.loop-node-test.true),
)

pub loop-node-preserved : goal.loop-node-preserved
loop-node-preserved c =
    put_is (put-more c.loop-node.invariant c.put_node-at.ensures) _ (sym (bytes_take c.args.nodes.now c.loop-node.node-index c.loop-node-test.true))
