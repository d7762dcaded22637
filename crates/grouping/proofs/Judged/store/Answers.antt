-- `Judged::store` meets its contract.
use Rattle.std.proofs.Common.{length, arith}
use Rattle.sequences.proofs.Loops.{filled_more, filled-to}
use Rattle.grouping.proofs.Judged.store.Goals as goal

pub loop-q-preserved : goal.loop-q-preserved
loop-q-preserved c = filled_more c.loop-q.invariant c.verdict_of.ensures (omega arith)

pub loop-r-preserved : goal.loop-r-preserved
loop-r-preserved c = filled_more c.loop-r.invariant c.row_of.ensures (omega arith)

pub returns-clause-verdict : goal.returns-clause-verdict
returns-clause-verdict c = filled-to (length c.args.leaders.now) c.loop-q.invariant (omega arith)

pub returns-clause-row : goal.returns-clause-row
returns-clause-row c = filled-to (length c.args.leaders.now) c.loop-r.invariant (omega arith)
