-- `table_writer::put_rows` meets its contract.
use mathlib.Core.Path.{◌≡◌}
use Prim.Native.Nat.{◌^◌}
use lib.ListN.{length}
use Rattle.sequences.proofs.Stores.{Stored}
use Rattle.meaning.specs.Traces.{masked}
use Rattle.table_bytes.specs.Written.{rows_bytes}
use Rattle.table_writer.proofs.put_rows.Given as goal

abbrev pub invariant-loop-s : goal.invariant-loop-s
invariant-loop-s l = (length l.out ≡ length l.initial.out) × Stored l.initial.out 7 (rows_bytes (masked (2 ^ l.signals) l.mask) l.signals l.s l.verdicts l.rows) l.out
