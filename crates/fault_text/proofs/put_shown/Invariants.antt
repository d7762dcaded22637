-- `fault_text::put_shown` meets its contract.
use mathlib.Core.List.{map}
use Prim.Native.Nat.{◌+◌}
use lib.ListN.{take}
use Rattle.text_pieces.specs.Put.{Put}
use Rattle.fault_text.specs.Fault.{shown}
use Rattle.fault_text.proofs.put_shown.Given as goal

abbrev pub invariant-loop-i : goal.invariant-loop-i
invariant-loop-i l = Put l.initial.out l.at (map shown (take l.i l.text)) l.out (l.at + l.i)
