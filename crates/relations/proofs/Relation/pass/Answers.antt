-- `relations::Relation::pass` meets its contract. The loop's invariant: the rows below x are passed, and the others as they were.
use native.Mathlib.Omega.{arith}
use mathlib.Core.Bool.{Bool}
use mathlib.Core.Path.{ap, sym, ◌∙◌}
use lib.ListN.{get_or}
use Rattle.relations.specs.Relations.{only_if}
use Rattle.relations.proofs.Rows.{made_more}
use Rattle.relations.proofs.Words.{row-passed, row-kept}
use Rattle.relations.proofs.Relation.pass.Goals as goal
use Rattle.relations.proofs.Relation.pass.Goals.{then-has, else-has}

pub loop-x-preserved : goal.loop-x-preserved
loop-x-preserved c =
    made_more c.args.k c.loop-x.invariant c.requires.0 c.requires.1 _
    (elim c.if-has.branch [
      | then-has w ↦ rw w.self-is (row-passed c.loop-x.invariant.long (omega arith)
          (ap (λ (t : Bool). only_if t (get_or c.args.self.now.rows c.args.k 0)) (sym w.if-has.true ∙ c.has.ensures)))
      | else-has w ↦ rw w.self-is (row-kept c.loop-x.invariant.long (sym c.has.ensures ∙ w.if-has.false))
    ])
