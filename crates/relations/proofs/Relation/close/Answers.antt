-- `relations::Relation::close` meets its contract. The loop's invariant: the matrix holds the ways through the labels below k.
use native.Mathlib.Omega.{arith}
use Rattle.relations.proofs.Closures.{closing-more}
use Rattle.relations.proofs.Relation.close.Goals as goal

pub loop-k-preserved : goal.loop-k-preserved
loop-k-preserved c = closing-more c.loop-k.invariant (omega arith) c.pass.ensures
