-- `relations::Relation::of_edges` meets its contract. The loop's invariant: the rows hold the edges of the events passed that can happen.
use mathlib.Core.Path.{sym, ◌∙◌}
use Rattle.relations.proofs.Rows.{edges_none, edges_more, edges-skip}
use Rattle.relations.proofs.Relation.of_edges.Goals as goal
use Rattle.relations.proofs.Relation.of_edges.Goals.{then-mask_has, else-mask_has}

pub loop-e-init : goal.loop-e-init
loop-e-init c = edges_none c.args.tables.now.sizes.2

pub loop-e-preserved : goal.loop-e-preserved
loop-e-preserved c = let possible = sym c.mask_has.ensures in
    elim c.if-mask_has.branch [ then-mask_has w ↦ rw w.relation-is (edges_more c.loop-e.invariant (possible ∙ w.if-mask_has.true) w.add_event.ensures) | else-mask_has w ↦ rw w.relation-is (edges-skip c.loop-e.invariant (possible ∙ w.if-mask_has.false)) ]
