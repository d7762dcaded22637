-- `relations::Relation::pass` meets its contract. The loop's invariant: the rows below x are passed, and the others as they were.
use Rattle.relations.proofs.Rows.{Made}
use Rattle.relations.specs.Relations.{entry, through}
use Rattle.relations.proofs.Relation.pass.Given as goal

abbrev pub invariant-loop-x : goal.invariant-loop-x
invariant-loop-x l = Made l.x l.labels (through l.k (entry l.initial.self.rows)) l.initial.self.rows l.self.rows
