-- `table_text::put_lines` meets its contract.
use Prim.Native.Nat.{◌+◌, ◌*◌, ◌≤◌}
use Rattle.text_pieces.specs.Put.{Put}
use Rattle.table_text.specs.Text.{lines_text}
use Rattle.table_text.proofs.put_lines.Given as goal

abbrev pub invariant-loop-s : goal.invariant-loop-s
invariant-loop-s l = (l.next ≤ l.at + 112 * l.s) × Put l.initial.out l.at (lines_text l.table l.signals l.s) l.out l.next
