-- `rule_file::read_nodes`: the invariant is `Progress`: what is left to judge is what was to be judged.
use Rattle.rule_file.proofs.Nodes.{Progress}
use Rattle.rule_file.proofs.read_nodes.Given as goal

abbrev pub invariant-loop-i : goal.invariant-loop-i
invariant-loop-i l = Progress l.bytes l.header l.mask l.nodes l.p l.seen l.i
