-- `relations::Relation::of_edges` meets its contract. The loop's invariant: the rows hold the edges of the events passed that can happen.
use Rattle.relations.proofs.Rows.{Edges}
use Rattle.relations.proofs.Relation.of_edges.Given as goal

abbrev pub invariant-loop-e : goal.invariant-loop-e
invariant-loop-e l = Edges l.tables.mask l.e l.tables.labels l.tables.profiles.now l.relation.rows
