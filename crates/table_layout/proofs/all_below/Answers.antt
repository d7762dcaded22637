-- `table_layout::all_below` meets its contract.
use Rattle.std.proofs.Common.{sym, arith}
use borrow.Author.Tests.{lt-ltb, le-ltb}
use Rattle.sequences.proofs.Loops.{passed-more, all-not}
use Rattle.table_layout.proofs.all_below.Goals as goal

pub returns-then-bound-two_at : goal.returns-then-bound-two_at
returns-then-bound-two_at c = sym (all-not _ _ _ c.loop-e-test.true (le-ltb _ _ (omega (arith, c.if-bound-two_at.true, c.two_at.ensures))))

pub loop-e-preserved : goal.loop-e-preserved
loop-e-preserved c = passed-more c.loop-e.invariant (lt-ltb _ _ (omega (arith, c.if-bound-two_at.false, c.two_at.ensures)))
