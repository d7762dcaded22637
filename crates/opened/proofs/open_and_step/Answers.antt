-- `opened::open_and_step` meets its contract.
use Rattle.std.proofs.Common.{◌∙◌, ap, ◌∷◌, []}
use Rattle.opened.specs.declared.Opened.{Opened}
use Rattle.opened.specs.OpenedTables.{stepped_by}
use Rattle.opened.proofs.Opening.{opened-runs}
use Rattle.opened.proofs.open_and_step.Goals as goal

pub returns : goal.returns
returns c = c.step.ensures ∙ ap (λ (t : Opened). stepped_by t c.args.state c.args.event) c.open.ensures ∙ opened-runs c.args.bytes c.args.number c.args.state (c.args.event ∷ [])
