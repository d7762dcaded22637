-- `run_parts::fill_rows` meets its contract.
use Rattle.std.proofs.Common.{arith}
use Rattle.sequences.proofs.Loops.{filled_more, filled-length}
use Rattle.run_parts.proofs.Laws.{copied}
use Rattle.run_parts.proofs.fill_rows.Goals as goal

pub loop-k-preserved : goal.loop-k-preserved
loop-k-preserved c = filled_more c.loop-k.invariant c.successor_at.ensures (omega arith)

pub returns : goal.returns
returns c = (copied 4096 c.loop-k.invariant (omega arith) (omega arith), omega (arith, filled-length c.loop-k.invariant))
