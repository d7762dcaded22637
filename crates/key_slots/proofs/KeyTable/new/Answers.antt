-- `KeyTable::new` makes a table.
use mathlib.Core.Path.{refl}
use Rattle.key_slots.proofs.Lists.{first-fits, first-slotted}
use Rattle.key_slots.proofs.KeyTable.new.Goals as goal

pub invariant_of-result : goal.invariant_of-result
invariant_of-result c = (first-fits refl, first-slotted)
