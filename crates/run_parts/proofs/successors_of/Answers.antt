-- `run_parts::successors_of` meets its contract.
use Rattle.std.proofs.Common.{arith}
use Rattle.sequences.proofs.Loops.{filled_more}
use Rattle.run_parts.proofs.successors_of.Goals as goal

pub loop-e-preserved : goal.loop-e-preserved
loop-e-preserved c = filled_more c.loop-e.invariant (rw c.row_at-at.ensures.0 at c.u16_at.ensures) (omega arith)
