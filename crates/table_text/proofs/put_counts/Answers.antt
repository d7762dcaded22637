-- `table_text::put_counts` meets its contract.
use mathlib.Core.Path.{ap}
use Rattle.text_pieces.specs.Decimal.{decimal}
use Rattle.text_pieces.proofs.Laws.{put-more, put_is}
use Rattle.table_text.proofs.put_counts.Goals as goal

pub returns-clause-put : goal.returns-clause-put
returns-clause-put c =
    let h₁ = put-more c.put_bytes-a.ensures (put_is c.put_number-b.ensures.put (decimal c.args.signals) (ap decimal c.from.ensures)) in
    put-more (put-more (put-more h₁ c.put_bytes-c.ensures) c.put_number-d.ensures.put) c.put_bytes.ensures
