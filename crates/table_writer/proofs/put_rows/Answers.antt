-- `table_writer::put_rows`: one row more.
use Rattle.std.proofs.Common.{ℕ, List, [], ◌^◌, ◌∙◌, ap, get_or}
use Rattle.std.proofs.lemmas.List.Edits.{sets}
use Rattle.meaning.specs.Traces.{masked}
use Rattle.sequences.proofs.Stores.{stored-length}
use Rattle.table_bytes.specs.Written.{row_bytes}
use Rattle.table_writer.proofs.Laws.{rows_more}
use Rattle.table_writer.proofs.put_rows.Goals as goal

pub loop-s-preserved : goal.loop-s-preserved
loop-s-preserved c =
    let bytes : ℕ → List ℕ = λ n. row_bytes (masked (2 ^ c.args.signals) c.args.mask) c.args.signals (get_or c.args.verdicts.now n 0) (get_or c.args.rows.now n []) in
    let stored = c.put_row.ensures ∙ ap (λ (n : ℕ). sets c.loop-s.out c.row_at.result (bytes n)) c.from-i.ensures in
    let h = rows_more (masked (2 ^ c.args.signals) c.args.mask) c.args.signals c.args.verdicts.now c.args.rows.now c.loop-s.s _ c.row_at.result c.loop-s.invariant.1 c.row_at.ensures.0 stored in
    (stored-length h, h)
