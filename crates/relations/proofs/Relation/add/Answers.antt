-- `relations::Relation::add` meets its contract. The bit of the pair is added to its row.
use native.Mathlib.Omega.{arith}
use Rattle.std.proofs.lemmas.Nat.{one_shl}
use Rattle.relations.proofs.Words.{marked-at}
use Rattle.relations.proofs.Relation.add.Goals as goal

pub returns : goal.returns
returns c = marked-at _ _ _ _ (omega arith) (one_shl c.args.y 128 c.requires.1)
