-- `slot_of` meets its contract.
use native.Mathlib.Omega.{arith}
use Rattle.key_slots.proofs.Lists.{slot_is}
use Rattle.key_slots.proofs.slot_of.Goals as goal

pub returns : goal.returns
returns c = (rw c.words.ensures (slot_is c.args.key.now), omega arith)
