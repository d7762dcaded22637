-- `labelling::mark_all` meets its contract. The loop's invariant: the profiles that the events passed hit, if they can happen, are marked, and no others.
use Rattle.labelling.proofs.Marks.{all_none}
use Rattle.labelling.proofs.mark_all.Goals as goal

pub loop-e-init : goal.loop-e-init
loop-e-init c = all_none c.args.tables.now.mask
