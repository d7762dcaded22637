-- `group_slots::least_by_slot` meets its contract.
use Rattle.std.proofs.Common.{get_or, ℕ, sym, ap, ◌∙◌, arith}
use Rattle.group_slots.proofs.Slots.{left-none, left-same}
use Rattle.group_slots.proofs.least_by_slot.Goals as goal

pub returns-then-same_step : goal.returns-then-same_step
returns-then-same_step c =
    ap (λ (x : ℕ). get_or c.args.next.now x 0) c.from.ensures
    ∙ left-same c.args.events c.args.rows.now c.args.group.now c.args.i c.args.j c.args.next.now c.requires.left_below.0 (omega arith) (sym c.same_step.ensures ∙ c.if-same_step.true)

pub returns-then-j-eq0 : goal.returns-then-j-eq0
returns-then-j-eq0 c =
    let other = sym c.same_step.ensures ∙ c.if-same_step.false in
    omega (arith, left-none c.args.events c.args.rows.now c.args.group.now c.args.i c.args.j c.requires.left_below.1 (omega (arith, c.if-j-eq0.true)) other)
