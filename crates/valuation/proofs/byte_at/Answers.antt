-- `valuation::byte_at` meets its contract. The loop's invariant: the byte has the bits of the columns passed.
use mathlib.Core.Path.{◌∙◌}
use Rattle.valuation.proofs.Held.{digit-at, byte_more}
use Rattle.valuation.proofs.byte_at.Goals as goal
use Rattle.valuation.proofs.byte_at.Goals.{then-holds, else-holds}

pub loop-j-preserved : goal.loop-j-preserved
loop-j-preserved c = byte_more c.loop-j.invariant c.holds.result c.holds.ensures _
    (elim c.if-holds.branch [ then-holds w ↦ rw w.if-holds.true (w.bit-is ∙ digit-at c.loop-j.j c.loop-j-test.true) | else-holds w ↦ rw w.if-holds.false w.bit-is ])
