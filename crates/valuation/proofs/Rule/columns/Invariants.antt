-- `valuation::Rule::columns` meets its contract. The loop's invariant: the columns hold the nodes passed, valued at each label.
use Rattle.valuation.proofs.Prefixes.{Prefix}
use Rattle.valuation.proofs.Rule.columns.Given as goal

abbrev pub invariant-loop-i : goal.invariant-loop-i
invariant-loop-i l = Prefix l.event l.high l.self.nodes.now l.i l.columns
