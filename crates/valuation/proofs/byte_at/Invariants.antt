-- `valuation::byte_at` meets its contract. The loop's invariant: the byte has the bits of the columns passed.
use Rattle.valuation.specs.Columns.{Byte}
use Rattle.valuation.proofs.byte_at.Given as goal

abbrev pub invariant-loop-j : goal.invariant-loop-j
invariant-loop-j l = Byte l.j l.columns l.l l.byte
