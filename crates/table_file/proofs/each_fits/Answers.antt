-- `table_file::each_fits` meets its contract.
use Rattle.std.proofs.Common.{sym, ◌∙◌}
use Rattle.sequences.proofs.Loops.{passed-more, all-not}
use Rattle.table_file.proofs.each_fits.Goals as goal

pub returns-then-not-successor_fits : goal.returns-then-not-successor_fits
returns-then-not-successor_fits c = let e = rw (c.can_happen.ensures, c.two_at.ensures) at c.successor_fits.ensures in
    sym (all-not _ _ c.loop-e.e c.loop-e-test.true (sym e ∙ c.if-not-successor_fits.true))

pub loop-e-preserved : goal.loop-e-preserved
loop-e-preserved c = let e = rw (c.can_happen.ensures, c.two_at.ensures) at c.successor_fits.ensures in
    passed-more c.loop-e.invariant (sym e ∙ c.if-not-successor_fits.false)
