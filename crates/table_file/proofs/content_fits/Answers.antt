-- `table_file::content_fits` meets its contract.
use Rattle.std.proofs.Common.{◌≡◌, ◌∙◌, sym, true, false, leb, inl, inr, arith, rules}
use borrow.Author.Tests.{lt-leb, le-leb}
use Rattle.sequences.specs.Tabulate.{every}
use Rattle.sequences.proofs.Tests.{fails, last}
use Rattle.meaning.specs.TableFiles.{verdict_byte, event_left, content_tests}
use Rattle.table_layout.proofs.Masks.{no-event, some-event}
use Rattle.table_file.proofs.Checking.{successors-by}
use Rattle.table_file.proofs.content_fits.Goals as goal

pub returns-then-mask-ne0 : goal.returns-then-mask-ne0
returns-then-mask-ne0 c =
    let byte = rw c.row_at-at.ensures.0 at c.byte_at.ensures in
    let shown : leb (verdict_byte c.args.t.now c.args.signals c.args.state) 3 ≡ true = le-leb _ _ (omega (arith, byte)) in
    let some : event_left c.args.t.now c.args.signals ≡ true = some-event c.requires.2 (omega arith) (λ none. omega (arith, c.if-mask-ne0.true)) in
    rw (shown, some) (rw c.row_at-at.ensures.0 at c.successors_fit.ensures ∙ successors-by c.args.t.now c.requires.2 c.args.states c.args.state ∙ last _)

pub returns-else-mask-ne0 : goal.returns-else-mask-ne0
returns-else-mask-ne0 c =
    let byte = rw c.row_at-at.ensures.0 at c.byte_at.ensures in
    let tests = content_tests c.args.t.now c.args.signals c.args.states c.args.state in
    let off : every tests ≡ false = elim c.if-mask-ne0.either [ inl h ↦ fails tests 1 (no-event c.requires.2 (omega (arith, h))) | inr h ↦ fails tests 0 (lt-leb _ _ (omega (arith, byte))) ] in
    (search rules) ∙ sym off
