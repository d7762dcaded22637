-- `opened::open_and_run` meets its contract.
use Rattle.std.proofs.Common.{◌∙◌, ap}
use Rattle.opened.specs.declared.Opened.{Opened}
use Rattle.opened.specs.OpenedTables.{ran_by}
use Rattle.opened.proofs.Opening.{opened-runs}
use Rattle.opened.proofs.open_and_run.Goals as goal

pub returns : goal.returns
returns c = c.run.ensures ∙ ap (λ (t : Opened). ran_by t c.args.state c.args.events.now) c.open.ensures ∙ opened-runs c.args.bytes c.args.number c.args.state c.args.events.now
