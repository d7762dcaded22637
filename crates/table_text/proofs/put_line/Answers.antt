-- `table_text::put_line` meets its contract.
use mathlib.Core.Path.{ap, ◌∙◌}
use Rattle.table_text.specs.Text.{word}
use Rattle.text_pieces.proofs.Laws.{put-more, put_is}
use Rattle.meaning.specs.TableFiles.{verdict_byte, verdict_of}
use Rattle.table_text.proofs.put_line.Goals as goal

pub returns-clause-put : goal.returns-clause-put
returns-clause-put c =
    let v = verdict_of (verdict_byte c.args.table.now c.args.signals c.args.state) in
    let h₁ = put-more c.put_number-a.ensures.put c.put_bytes-b.ensures in
    let h₂ = put-more h₁ (put_is c.put_bytes-c.ensures (word v) (c.word.ensures.word ∙ ap word c.verdict_at.ensures)) in
    put-more (put-more h₂ c.put_successors-d.ensures.put) c.put_bytes.ensures
