-- `table_writer::write`: the header and the rows are the table.
use Rattle.std.proofs.Common.{◌≤◌, ◌^◌, length, arith}
use borrow.Author.Tests.{le-leb}
use Rattle.meaning.specs.Traces.{masked}
use Rattle.meaning.specs.TableFiles.{table_length}
use Rattle.table_writer.proofs.Laws.{table-stored}
use Rattle.table_writer.proofs.write.Goals as goal

pub returns-clause-out_after : goal.returns-clause-out_after
returns-clause-out_after c =
    let l : table_length c.args.signals c.args.states ≤ length c.args.out.now = omega (arith, c.if-out-n.false, c.row_at-n.ensures.0) in
    rw (le-leb (table_length c.args.signals c.args.states) (length c.args.out.now) l)
    (table-stored (masked (2 ^ c.args.signals) c.args.mask) c.args.signals c.args.verdicts.now c.args.rows.now c.args.states c.args.out.now _ _ c.put_header.ensures c.put_rows.ensures l)
