-- `KeyTable::find` meets its contract. The loop goes down the keys of the slot.
use Prim.Native.Nat.{◌<◌}
use Rattle.key_slots.proofs.Lists.{Sought}
use Rattle.key_slots.proofs.KeyTable.find.Given as goal

abbrev pub invariant-loop-i : goal.invariant-loop-i
invariant-loop-i l = (l.i < 256) × Sought l.self-inside.count l.self-inside.keys l.slot l.key l.i

abbrev pub decreases-loop-i : goal.decreases-loop-i
decreases-loop-i l = l.i
