-- `table_run::row_in` meets its contract.
use Rattle.table_layout.proofs.Form.{row_inside}
use Rattle.table_run.proofs.Laws.{granted}
use Rattle.table_run.proofs.row_in.Goals as goal

pub content_fits-requires : goal.content_fits-requires
content_fits-requires c = let start = granted c.args.t.now c.args.signals c.args.states c.args.state c.admit.ensures c.in_ok-admit.was in
    (start.few, row_inside _ _ _ start.fits _ start.inside, c.possible_mask-mask.ensures)
