-- `relations::Relation::add_event` meets its contract. The loop's invariant: the edges to the labels passed are added.
use lib.Dec.{eqb}
use Rattle.relations.specs.Relations.{Added, label_at}
use Rattle.relations.proofs.Relation.add_event.Given as goal

abbrev pub invariant-loop-y : goal.invariant-loop-y
invariant-loop-y l = Added l.y l.tables.labels (λ x y. eqb (label_at l.tables.labels l.tables.profiles.now l.e y) x) l.initial.self.rows l.self.rows
