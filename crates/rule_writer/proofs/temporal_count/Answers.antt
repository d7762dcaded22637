-- `rule_writer::temporal_count` meets its contract.
use Rattle.std.proofs.Common.{arith, ap, ◌∙◌, get_or}
use Rattle.meaning.specs.RuleFiles.{temporal}
use Rattle.meaning.specs.RuleTexts.{node}
use mir.Val.{bool_byte}
use Rattle.rule_nodes.specs.declared.Shape.{Shape}
use Rattle.rule_file.proofs.Nodes.{byte-of, one-at_most}
use Rattle.rule_writer.proofs.Laws.{temporals-take}
use Rattle.rule_writer.proofs.temporal_count.Goals as goal

pub loop-node-preserved : goal.loop-node-preserved
loop-node-preserved c =
    let i = c.loop-node.node-index in
    let counted = temporal (get_or c.args.nodes.now i (node 0 0 0)).kind in
    let t = c.from-count.ensures ∙ ap (λ (s : Shape). bool_byte s.temporal) c.shape_of.ensures ∙ byte-of counted in
    (omega (arith, t, one-at_most counted), omega (arith, t, temporals-take c.args.nodes.now i c.loop-node-test.true))
