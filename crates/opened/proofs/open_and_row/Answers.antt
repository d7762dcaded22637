-- `opened::open_and_row` meets its contract.
use Rattle.std.proofs.Common.{◌∙◌, ap}
use Rattle.opened.specs.declared.Opened.{Opened}
use Rattle.opened.specs.OpenedTables.{row_by}
use Rattle.opened.proofs.Opening.{opened-row}
use Rattle.opened.proofs.open_and_row.Goals as goal

pub returns : goal.returns
returns c = c.row.ensures ∙ ap (λ (t : Opened). row_by t c.args.state) c.open.ensures ∙ opened-row c.args.bytes 0 c.args.state
