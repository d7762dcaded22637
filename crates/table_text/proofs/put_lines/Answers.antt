-- `table_text::put_lines` meets its contract.
use native.Mathlib.Omega.{arith}
use mathlib.Core.Path.{refl}
use Rattle.table_text.specs.Text.{line_text}
use Rattle.text_pieces.proofs.Laws.{joined-more}
use Rattle.table_text.proofs.put_lines.Goals as goal

pub loop-s-preserved : goal.loop-s-preserved
loop-s-preserved c =
    let h = joined-more (line_text c.args.table.now c.args.signals) c.loop-s.s _ _ _ c.loop-s.invariant.1 refl c.put_line-next.ensures.put in
    (omega (arith, c.put_line-next.ensures.upper_bound), h)
