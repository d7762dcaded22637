-- `table_file::check` meets its contract.
use Rattle.std.proofs.Common.{◌∙◌, sym}
use Rattle.table_file.proofs.Checking.{checked-table, checked-rows, checked-header}
use Rattle.table_file.proofs.check.Goals as goal
use Rattle.table_file.proofs.check.Goals.{else-header_fits-via-then-header_fits+else-rows_fit, else-header_fits-via-else-header_fits}

pub returns-then-rows_fit : goal.returns-then-rows_fit
returns-then-rows_fit c = checked-table c.args.t.now _ _ (sym c.header_fits.ensures ∙ c.if-header_fits.true) c.byte_at-signals.ensures c.u16_at-states.ensures (sym c.rows_fit.ensures ∙ c.if-rows_fit.true)

pub returns-else-header_fits : goal.returns-else-header_fits
returns-else-header_fits c = elim c.else-header_fits.branch [
  | else-header_fits-via-then-header_fits+else-rows_fit w ↦ checked-rows c.args.t.now _ _ c.byte_at-signals.ensures c.u16_at-states.ensures (sym w.rows_fit.ensures ∙ w.if-rows_fit.false)
  | else-header_fits-via-else-header_fits w ↦ checked-header c.args.t.now (sym c.header_fits.ensures ∙ w.if-header_fits.false)
]
