-- `opened::open_and_judge` meets its contract.
use Rattle.std.proofs.Common.{◌∙◌, ap}
use Rattle.opened.specs.declared.Opened.{Opened}
use Rattle.opened.specs.OpenedTables.{judged_by}
use Rattle.opened.proofs.Opening.{opened-judges}
use Rattle.opened.proofs.open_and_judge.Goals as goal

pub returns : goal.returns
returns c = c.judge_recordings.ensures ∙ ap (λ (t : Opened). judged_by t c.args.first.now c.args.second.now) c.open.ensures ∙ opened-judges c.args.bytes 0 c.args.first.now c.args.second.now
