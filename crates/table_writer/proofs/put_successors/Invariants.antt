-- `table_writer::put_successors` meets its contract.
use mathlib.Core.Path.{◌≡◌}
use lib.ListN.{length}
use Rattle.sequences.proofs.Stores.{Stored}
use Rattle.meaning.specs.Traces.{masked}
use Rattle.table_bytes.specs.Written.{successor_bytes}
use Rattle.table_writer.proofs.put_successors.Given as goal

abbrev pub invariant-loop-e : goal.invariant-loop-e
invariant-loop-e l = (length l.out ≡ length l.initial.out) × Stored l.initial.out l.at (successor_bytes (masked l.events l.mask) l.e l.row) l.out
