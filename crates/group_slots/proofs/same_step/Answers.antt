-- `group_slots::same_step` meets its contract.
use Rattle.std.proofs.Common.{◌≡◌, ℕ, Bool, true, false, sym, ◌∙◌, arith}
use Rattle.sequences.proofs.Loops.{passed-more, passed-all, all-not}
use Rattle.moore.specs.Grouping.{entry, together}
use Rattle.group_slots.specs.Groups.{unmasked}
use Rattle.group_slots.proofs.Comparing.{step_is}
use Rattle.group_slots.proofs.same_step.Goals as goal

pub returns-then-not-joined-2 : goal.returns-then-not-joined-2
returns-then-not-joined-2 c =
    let rows = c.args.rows.now in
    let group = c.args.group.now in
    let both : ℕ → Bool = λ k. together group (entry rows c.args.j k) (entry rows c.args.i k) in
    let apart : both c.loop-e.e ≡ false = rw (← c.successor.ensures, ← c.successor-in-loop-e.ensures) (sym c.joined-in-loop-e.ensures ∙ c.if-not-joined-2.true) in
    step_is (unmasked c.args.events) rows group c.args.j c.args.i false (sym c.joined.ensures ∙ c.if-not-joined.false) (sym (all-not c.args.events both c.loop-e.e c.loop-e-test.true apart))

pub loop-e-preserved : goal.loop-e-preserved
loop-e-preserved c = passed-more c.loop-e.invariant (rw (← c.successor.ensures, ← c.successor-in-loop-e.ensures) (sym c.joined-in-loop-e.ensures ∙ c.if-not-joined-2.false))

pub returns : goal.returns
returns c = step_is (unmasked c.args.events) c.args.rows.now c.args.group.now c.args.j c.args.i true (sym c.joined.ensures ∙ c.if-not-joined.false) (sym (passed-all c.loop-e.invariant c.args.events (omega arith)))
