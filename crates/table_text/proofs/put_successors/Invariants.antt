-- `table_text::put_successors` meets its contract.
use Prim.Native.Nat.{◌+◌, ◌*◌, ◌≤◌}
use Rattle.text_pieces.specs.Put.{Put}
use Rattle.table_text.specs.Text.{successors_text}
use Rattle.table_text.proofs.put_successors.Given as goal

abbrev pub invariant-loop-e : goal.invariant-loop-e
invariant-loop-e l = (l.next ≤ l.at + 6 * l.e) × Put l.initial.out l.at (successors_text l.table l.signals l.state l.e) l.out l.next
