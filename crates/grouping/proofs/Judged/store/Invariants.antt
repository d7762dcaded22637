-- `Judged::store` meets its contract.
use Rattle.std.proofs.Common.{get_or}
use Rattle.sequences.proofs.Loops.{Filled}
use Rattle.meaning.specs.Traces.{masked}
use Rattle.group_slots.specs.Groups.{unmasked}
use Rattle.grouping.specs.Machines.{verdict_at, row_at}
use Rattle.grouping.proofs.Judged.store.Given as goal

abbrev pub invariant-loop-q : goal.invariant-loop-q
invariant-loop-q l =
    let s = l.self.grouped.now.successors in
    let group = l.self.grouped.now.group.now in
    Filled l.q (λ k. verdict_at (masked s.events l.self.mask) s.rows.now l.self.classes.now group (get_or l.leaders k 0)) l.initial.verdicts l.verdicts

abbrev pub invariant-loop-r : goal.invariant-loop-r
invariant-loop-r l =
    let s = l.self.grouped.now.successors in
    Filled l.r (λ k. row_at (unmasked s.events) s.rows.now l.numbers (get_or l.leaders k 0)) l.initial.to l.to
