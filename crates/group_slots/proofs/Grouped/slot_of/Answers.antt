-- `Grouped::slot_of` meets its contract.
use Rattle.std.proofs.Common.{◌≡◌, ℕ, ◌%◌, get_or, ap, ◌∙◌, arith}
use Rattle.group_slots.proofs.Slots.{mixed-none, mixed-more}
use Rattle.group_slots.proofs.Grouped.slot_of.Goals as goal

pub loop-e-init : goal.loop-e-init
loop-e-init c =
    let group = c.args.self.now.group.now in
    let start : c.from-slot.result ≡ get_or group c.args.i 0 = c.from-slot.ensures ∙ ap (λ (x : ℕ). get_or group x 0) c.from.ensures in
    let small : c.from-slot.result ≡ get_or group c.args.i 0 % 1024 = omega arith in
    (mixed-none _ _ _ small, omega arith)

pub loop-e-preserved : goal.loop-e-preserved
loop-e-preserved c =
    let group = c.args.self.now.group.now in (
      mixed-more c.loop-e.e _ _ c.loop-e.slot _ c.loop-e.invariant.0
          (c.from-in-loop-e-2.ensures ∙ ap (λ (x : ℕ). get_or group x 0) (c.from-in-loop-e.ensures ∙ c.at-to.ensures)),
      omega arith,
    )
