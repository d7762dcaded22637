-- `text_pieces::refusal_text` meets its contract.
use native.Mathlib.Omega.{arith}
use native.Mathlib.Nat.{zero-add}
use mathlib.Core.Path.{◌∙◌, ap}
use lib.ListN.{length}
use borrow.Author.Tests.{le-leb}
use Rattle.std.specs.Prelude.{Ok}
use Rattle.meaning.specs.Refusals.{code_of}
use Rattle.text_pieces.specs.Decimal.{decimal}
use Rattle.text_pieces.specs.RefusalLine.{refusal_text}
use Rattle.text_pieces.proofs.Laws.{put-length, put-more, put_is, put_front}
use Rattle.text_pieces.proofs.Decimal.{decimal-u64}
use Rattle.text_pieces.proofs.refusal_text.Goals as goal

pub put_decimal-d-requires : goal.put_decimal-d-requires
put_decimal-d-requires c = omega (arith, decimal-u64 c.place.result c.place.type_inv)

pub put_bytes-requires : goal.put_bytes-requires
put_bytes-requires c =
    let l₁ = put-length c.put_bytes-a.ensures in
    let l₂ = put-length c.put_number-b.ensures.put in
    let l₃ = put-length c.put_bytes-c.ensures in
    let l₄ = put-length c.put_decimal-d.ensures in
    omega (arith, decimal-u64 c.place.result c.place.type_inv, c.if-out-lt64.false)

pub returns : goal.returns
unfolding refusal_text
returns c =
    let n = put_is c.put_number-b.ensures.put (decimal (code_of c.args.refusal).0) (ap decimal (c.from.ensures ∙ c.number.ensures)) in
    let p = put_is c.put_decimal-d.ensures (decimal (code_of c.args.refusal).1) (ap decimal c.place.ensures) in
    let h = put-more (put-more (put-more (put-more c.put_bytes-a.ensures n) c.put_bytes-c.ensures) p) c.put_bytes.ensures in
    let room = le-leb 64 (length c.args.out.now) c.if-out-lt64.false in
    record {
      value = rw room (ap Ok (h.next ∙ zero-add (length (refusal_text c.args.refusal))));
      out_after = rw room (put_front h (omega (arith, decimal-u64 c.place.result c.place.type_inv)));
      upper_bound = omega (arith, decimal-u64 c.place.result c.place.type_inv);
    }
