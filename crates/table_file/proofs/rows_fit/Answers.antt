-- `table_file::rows_fit` meets its contract.
use Rattle.std.proofs.Common.{sym, ◌∙◌}
use Rattle.sequences.proofs.Loops.{passed-more, all-not}
use Rattle.table_file.proofs.rows_fit.Goals as goal

pub returns-then-not-row_fits : goal.returns-then-not-row_fits
returns-then-not-row_fits c = sym (all-not _ _ c.loop-s.s c.loop-s-test.true (sym c.row_fits.ensures ∙ c.if-not-row_fits.true))

pub loop-s-preserved : goal.loop-s-preserved
loop-s-preserved c = passed-more c.loop-s.invariant (sym c.row_fits.ensures ∙ c.if-not-row_fits.false)
