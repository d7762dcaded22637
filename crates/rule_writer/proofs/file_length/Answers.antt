-- `rule_writer::file_length` meets its contract.
use Rattle.std.proofs.Common.{arith, get_or}
use Rattle.meaning.specs.RuleTexts.{node, nodes_bytes}
use Rattle.rule_bytes.proofs.RoundTrip.{node-length}
use Rattle.rule_writer.proofs.Laws.{length_more}
use Rattle.rule_writer.proofs.file_length.Goals as goal

pub loop-node-init : goal.loop-node-init
unfolding nodes_bytes
loop-node-init c = (omega arith, omega arith)

pub loop-node-preserved : goal.loop-node-preserved
loop-node-preserved c =
    let i = c.loop-node.node-index in
    let more = length_more c.args.nodes.now i c.loop-node-test.true in
    let long = node-length (get_or c.args.nodes.now i (node 0 0 0)) (c.requires.1.kind i c.loop-node-test.true) in
    (omega (arith, c.record_length-n.ensures.1), omega (arith, c.record_length-n.ensures.0, more, long))
