-- `refinement::round` meets its contract.
use Rattle.sequences.specs.Tabulate.{least_below}
use Rattle.sequences.proofs.Loops.{Filled}
use Rattle.moore.specs.Grouping.{same_step}
use Rattle.group_slots.specs.Groups.{unmasked}
use Rattle.group_slots.specs.Slots.{Slotted}
use Rattle.refinement.proofs.round.Given as goal

abbrev pub invariant-loop-i : goal.invariant-loop-i
invariant-loop-i l =
    let s = l.grouped.successors in
    let group = l.grouped.group.now in record {
      filled : Filled l.i (λ k. least_below k (λ j. same_step (unmasked s.events) s.rows.now group j k)) l.initial.next l.next;
      slotted : Slotted l.i s.events s.rows.now group l.slots;
    }
