-- `relations::Relation::close` meets its contract. The loop's invariant: the matrix holds the ways through the labels below k.
use Rattle.relations.proofs.Closures.{Closing}
use Rattle.relations.proofs.Relation.close.Given as goal

abbrev pub invariant-loop-k : goal.invariant-loop-k
invariant-loop-k l = Closing l.k l.labels l.initial.self.rows l.self.rows
