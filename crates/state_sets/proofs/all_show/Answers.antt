-- `state_sets::all_show` meets its contract.
use mathlib.Core.Path.{refl, sym}
use mathlib.Core.Bool.{true, false}
use borrow.Author.Tests.{eq-eqb, ne_eqb}
use Rattle.sequences.proofs.Loops.{passed-more, all-not}
use Rattle.state_sets.specs.Sets.{shows_byte}
use Rattle.state_sets.proofs.Laws.{member-shows, other-shows}
use Rattle.state_sets.proofs.all_show.Goals as goal
use Rattle.state_sets.proofs.all_show.Goals.{else-members-from-via-then-members-from+else-byte_at-verdict, else-members-from-via-else-members-from}

pub returns-then-byte_at-verdict : goal.returns-then-byte_at-verdict
returns-then-byte_at-verdict c = let t = c.args.t.now in
    let set = c.args.members.now in
    let v = c.args.verdict in
    sym (all-not c.args.states (shows_byte t c.args.signals set v) c.loop-state.state c.loop-state-test.true
    (member-shows t c.args.signals set v c.loop-state.state c.from.ensures false c.if-members-from.true c.row_at.ensures.0 c.byte_at.ensures refl (ne_eqb _ _ c.if-byte_at-verdict.true)))

pub loop-state-preserved : goal.loop-state-preserved
loop-state-preserved c = let t = c.args.t.now in
    let set = c.args.members.now in
    let v = c.args.verdict in
    passed-more c.loop-state.invariant (elim c.else-members-from.branch [
      | else-members-from-via-then-members-from+else-byte_at-verdict w ↦
          member-shows t c.args.signals set v c.loop-state.state c.from.ensures true w.if-members-from.true w.row_at.ensures.0 w.byte_at.ensures refl (eq-eqb _ _ w.if-byte_at-verdict.false)
      | else-members-from-via-else-members-from w ↦ other-shows t c.args.signals set v c.loop-state.state c.from.ensures w.if-members-from.false
    ])
