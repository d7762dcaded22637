-- `table_layout::all_below` meets its contract.
use Rattle.std.proofs.Common.{◌+◌, ◌*◌, ltb}
use Rattle.meaning.specs.Bytes.{u16_at}
use Rattle.sequences.proofs.Loops.{Passed}
use Rattle.table_layout.proofs.all_below.Given as goal

abbrev pub invariant-loop-e : goal.invariant-loop-e
invariant-loop-e l = Passed l.e (λ e. ltb (u16_at l.t (l.at + 2 * e)) l.bound)
