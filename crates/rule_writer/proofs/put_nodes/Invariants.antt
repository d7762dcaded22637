-- `rule_writer::put_nodes`: the records of the nodes so far are put.
use Rattle.std.proofs.Common.{take}
use Rattle.meaning.specs.RuleTexts.{nodes_bytes}
use Rattle.text_pieces.specs.Put.{Put}
use Rattle.rule_writer.proofs.put_nodes.Given as goal

abbrev pub invariant-loop-node : goal.invariant-loop-node
invariant-loop-node l = Put l.initial.out l.start (nodes_bytes (take l.node-index l.nodes)) l.out l.at
