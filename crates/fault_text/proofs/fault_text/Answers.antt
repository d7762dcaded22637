-- `fault_text::fault_text` meets its contract.
use native.Mathlib.Omega.{arith}
use native.Mathlib.Nat.{zero-add}
use borrow.Author.Tests.{le-leb}
use mathlib.Core.Path.{ap, ◌∙◌}
use Prim.Native.Nat.{ℕ, ◌≤◌}
use lib.ListN.{length}
use Rattle.std.specs.Prelude.{Ok}
use Rattle.meaning.specs.Refusals.{code_of}
use Rattle.text_pieces.proofs.Laws.{put-more, put_is, put_front}
use Rattle.fault_text.specs.Fault.{marked, fault_text}
use Rattle.fault_text.proofs.Laws.{line-put}
use Rattle.fault_text.proofs.fault_text.Goals as goal

pub returns : goal.returns
unfolding fault_text
returns c =
    let long : 4096 ≤ length c.args.out.now = omega (arith, c.if-out-lt4096.false) in
    let line = line-put c.args.refusal c.args.out.now long _ c.in_ok-line.line (omega (arith, c.place.ensures, c.place.type_inv)) c.in_ok-line.ensures.value c.in_ok-line.ensures.out_after in
    let below = put_is c.put_marked.ensures.put (marked c.args.text.now (code_of c.args.refusal).1) (ap (λ (k : ℕ). marked c.args.text.now k) c.place.ensures) in
    let h = put-more line below in
    let room = le-leb 4096 (length c.args.out.now) long in
    record {
      answer = rw room (ap Ok (h.next ∙ zero-add (length (fault_text c.args.refusal c.args.text.now))));
      output = rw room (put_front h (omega (arith, c.in_ok-line.ensures.upper_bound, c.put_marked.ensures.upper_bound)));
    }
