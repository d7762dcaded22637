-- `rule_writer::temporal_count`: so many of the nodes so far are temporal.
use Rattle.std.proofs.Common.{◌≡◌, ◌≤◌, take}
use Rattle.meaning.specs.RuleFiles.{temporals}
use Rattle.rule_writer.proofs.temporal_count.Given as goal

abbrev pub invariant-loop-node : goal.invariant-loop-node
invariant-loop-node l = (l.count ≤ l.node-index) × (l.count ≡ temporals (take l.node-index l.nodes))
