-- `rule_writer::write_nodes` meets its contract, where no check refuses.
use Rattle.std.proofs.Common.{arith, refl, ap, sym, ◌∙◌, Ok, length}
use Rattle.rule_bytes.proofs.Lengths.{file-length}
use Rattle.rule_writer.specs.Writing.{unmasked}
use Rattle.text_pieces.proofs.Laws.{put_front}
use Rattle.rule_writer.proofs.Laws.{file-put, answered}
use Rattle.rule_writer.proofs.write_nodes.Goals as goal

pub returns-clause-answer : goal.returns-clause-answer
returns-clause-answer c =
    let r = unmasked c.args.signals c.args.nodes.now in
    ap Ok (omega (arith, file-length r))
    ∙ sym (answered r (length c.args.rule.now) (sym c.any_out_of_range.ensures ∙ c.if-any_out_of_range.false) (omega arith) (omega arith))

pub returns-clause-output : goal.returns-clause-output
returns-clause-output c =
    let r = unmasked c.args.signals c.args.nodes.now in
    let q = answered r (length c.args.rule.now) (sym c.any_out_of_range.ensures ∙ c.if-any_out_of_range.false) (omega arith) (omega arith) in
    let put = file-put c.args.signals _ c.args.nodes.now refl c.put_bytes-first.ensures c.put_nodes.ensures in
    rw q (put_front put (omega (arith, put.next, file-length r)))
