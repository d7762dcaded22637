-- `table_file::each_fits` meets its contract.
use Rattle.std.proofs.Common.{◌+◌, ◌*◌, eqb}
use Rattle.meaning.specs.Bytes.{bit, u16_at}
use Rattle.sequences.proofs.Loops.{Passed}
use Rattle.table_file.specs.Successors.{fits_by}
use Rattle.table_file.proofs.each_fits.Given as goal

abbrev pub invariant-loop-e : goal.invariant-loop-e
invariant-loop-e l = Passed l.e (λ e. fits_by (eqb (bit e l.mask) 1) l.states (u16_at l.t (l.at + 2 * e)))
