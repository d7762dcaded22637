-- `refinement::round` meets its contract.
use Rattle.std.proofs.Common.{refl, arith}
use Rattle.sequences.proofs.Loops.{filled_none, filled_more}
use Rattle.moore.specs.Grouping.{next_groups}
use Rattle.group_slots.proofs.Slots.{left_below, in-slot, slotted-none, slotted-more}
use Rattle.refinement.proofs.Laws.{filled-take}
use Rattle.refinement.proofs.round.Goals as goal

pub loop-i-init : goal.loop-i-init
loop-i-init c = record { filled = filled_none; slotted = slotted-none _ _ _ _ refl }

pub least_by_slot-least-requires-clause-left_below : goal.least_by_slot-least-requires-clause-left_below
least_by_slot-least-requires-clause-left_below c =
    let slot = c.slot_of-slot in
    (left_below _ _ _ c.loop-i.i c.loop-i.invariant.filled, in-slot _ _ _ c.loop-i.i slot.result _ c.loop-i.slots c.loop-i.invariant.slotted slot.ensures.0 slot.ensures.1 refl)

pub loop-i-preserved : goal.loop-i-preserved
loop-i-preserved c =
    let slot = c.slot_of-slot in record {
      filled = filled_more c.loop-i.invariant.filled c.least_by_slot-least.ensures (omega arith);
      slotted = slotted-more _ _ _ c.loop-i.i slot.result c.loop-i.slots c.loop-i.invariant.slotted slot.ensures.0 slot.ensures.1;
    }

pub returns : goal.returns
unfolding next_groups
returns c = filled-take c.args.grouped.now.successors.states c.loop-i.invariant.filled (omega arith)
