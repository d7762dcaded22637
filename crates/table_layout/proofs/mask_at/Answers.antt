-- `table_layout::mask_at` meets its contract.
use Rattle.std.proofs.Common.{true, false, not, sym, ap, ◌∙◌, arith}
use borrow.Author.Tests.{eq-eqb, ne_eqb}
use Rattle.table_layout.proofs.Bits.{shifted}
use Rattle.table_layout.proofs.Masks.{marked_more}
use Rattle.table_layout.proofs.mask_at.Goals as goal
use Rattle.table_layout.proofs.mask_at.Goals.{then-two_at, else-two_at}

pub loop-e-preserved : goal.loop-e-preserved
loop-e-preserved c = elim c.if-two_at.branch [
  | then-two_at w ↦ marked_more true c.loop-e.invariant (sym (ap not (ne_eqb _ _ (λ q. w.if-two_at.true (c.two_at.ensures ∙ q))))) (omega (arith, shifted c.loop-e.e (omega arith)))
  | else-two_at w ↦ marked_more false c.loop-e.invariant (sym (ap not (eq-eqb _ _ (sym c.two_at.ensures ∙ w.if-two_at.false)))) (omega (arith, w.mask-is))
]
