-- `refusal_words::words` meets its contract.
use native.Mathlib.Omega.{arith}
use borrow.Author.Tests.{le-leb}
use mathlib.Core.Path.{ap, ◌∙◌}
use lib.ListN.{length}
use Rattle.meaning.specs.Refusals.{code_of}
use Rattle.text_pieces.proofs.Laws.{put-more, put_is, put_front}
use Rattle.refusal_words.specs.Words.{words_for}
use Rattle.refusal_words.proofs.words.Goals as goal

pub returns-clause-output : goal.returns-clause-output
returns-clause-output c =
    let sentence = put_is c.put_bytes-n.ensures (words_for (code_of c.args.refusal).0) (c.words_for.ensures.words ∙ ap words_for c.number.ensures) in
    let room = le-leb 128 (length c.args.out.now) (omega arith) in
    rw room (put_front (put-more sentence c.put_bytes.ensures) (omega (arith, c.words_for.ensures.upper_bound, c.put_bytes-n.ensures.next, c.put_bytes.ensures.next)))
