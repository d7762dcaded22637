-- `rule_writer::file_length`: the length of the file of the nodes so far.
use Rattle.std.proofs.Common.{◌≡◌, ◌+◌, ◌*◌, ◌≤◌, length, take}
use Rattle.meaning.specs.RuleTexts.{nodes_bytes}
use Rattle.rule_writer.proofs.file_length.Given as goal

abbrev pub invariant-loop-node : goal.invariant-loop-node
invariant-loop-node l = (l.n ≤ 6 + 6 * l.node-index) × (l.n ≡ 6 + length (nodes_bytes (take l.node-index l.nodes)))
