-- `table_file::successors_fit` meets its contract.
use Rattle.std.proofs.Common.{◌∙◌, ◌+◌, ◌*◌}
use Rattle.meaning.specs.Bytes.{u16_at}
use Rattle.table_file.proofs.Checking.{successors-full}
use Rattle.table_file.proofs.successors_fit.Goals as goal

pub returns-then-mask-full_mask : goal.returns-then-mask-full_mask
returns-then-mask-full_mask c = rw c.width-events.ensures.0 at c.all_below.ensures
    ∙ successors-full c.args.signals c.args.mask c.args.states (λ e. u16_at c.args.t.now (c.args.at + 2 * e)) (c.if-mask-full_mask.true ∙ c.full_mask.ensures)
