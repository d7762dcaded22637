-- `run_parts::fill_rows` meets its contract.
use Rattle.sequences.proofs.Loops.{Filled}
use Rattle.run_parts.proofs.Laws.{flat}
use Rattle.run_parts.proofs.fill_rows.Given as goal

abbrev pub invariant-loop-k : goal.invariant-loop-k
invariant-loop-k l = Filled l.k (flat l.t l.signals) l.initial.rows l.rows
