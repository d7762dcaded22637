-- `realizability::Components::gather_event` meets its contract. The loop's invariant: each component has the sets of the labels passed, besides those it had.
use mathlib.Core.Logic.{inl, inr}
use mathlib.Core.Path.{refl}
use lib.ListN.{get_or, length-set}
use Rattle.ltl.specs.Keys.{look}
use Rattle.relations.specs.Relations.{label_at}
use Rattle.realizability.proofs.Gathers.{adds-if, gathered-more}
use Rattle.realizability.proofs.Components.gather_event.Goals as goal
use Rattle.realizability.proofs.Components.gather_event.Goals.{then-self-label_before, else-self-label_before}

pub loop-y-preserved : goal.loop-y-preserved
loop-y-preserved c =
    let adds = adds-if c.loop-y.invariant.of_labels c.label_before.ensures.0 c.loop-y.y (look c.args.tables.now.fairs.now c.args.e c.loop-y.y) c.if-self-label_before.add
    (elim c.if-self-label_before.branch [ then-self-label_before w ↦ inl (w.if-self-label_before.true, w.add-is) | else-self-label_before w ↦ inr (w.if-self-label_before.false, w.add-is) ]) in
    rw c.loop-y.invariant.of_labels (record {
      of_labels = refl;
      long = simp length-set c.loop-y.invariant.long;
      gathered = gathered-more c.args.self.now.of (label_at c.args.tables.now.labels c.args.tables.now.profiles.now) (look c.args.tables.now.fairs.now) c.args.e
          c.loop-y.invariant.gathered c.args.tables.now.sizes.2 (get_or c.args.self.now.of c.loop-y.y 0) c.if-self-label_before.add refl
          (c.requires.within.is c.loop-y.y c.loop-y-test.true) adds c.loop-y.invariant.long;
    })
