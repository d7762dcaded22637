-- `table_layout::possible_mask` meets its contract.
use Rattle.std.proofs.Common.{sym, ◌∙◌}
use Rattle.table_layout.proofs.Masks.{mask-in, mask_full}
use Rattle.table_layout.proofs.possible_mask.Goals as goal

pub returns-then-all_below : goal.returns-then-all_below
returns-then-all_below c = let e = c.row_at-at.ensures.0 in let w = c.width-events.ensures.0 in
    mask_full c.args.t.now c.args.signals c.full_mask.ensures (rw (e, w) at (sym c.all_below.ensures ∙ c.if-all_below.true))

pub returns-else-all_below : goal.returns-else-all_below
returns-else-all_below c = let e = c.row_at-at.ensures.0 in let w = c.width-events.ensures.0 in
    mask-in c.args.signals (rw (e, w) at c.mask_at.ensures)
