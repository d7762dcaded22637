-- `Grouped::slot_of` meets its contract.
use Rattle.std.proofs.Common.{◌≡◌, ◌%◌, ◌<◌, get_or}
use Rattle.moore.specs.Grouping.{entry}
use Rattle.group_slots.specs.Slots.{mixed}
use Rattle.group_slots.proofs.Grouped.slot_of.Given as goal

abbrev pub invariant-loop-e : goal.invariant-loop-e
invariant-loop-e l =
    let s = l.self.successors in
    let group = l.self.group.now in
    (l.slot ≡ mixed l.e (λ k. get_or group (entry s.rows.now l.i k) 0) (get_or group l.i 0 % 1024)) × (l.slot < 1024)
