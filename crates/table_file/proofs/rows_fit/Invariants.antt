-- `table_file::rows_fit` meets its contract.
use Rattle.sequences.specs.Tabulate.{every}
use Rattle.sequences.proofs.Loops.{Passed}
use Rattle.meaning.specs.TableFiles.{row_tests}
use Rattle.table_file.proofs.rows_fit.Given as goal

abbrev pub invariant-loop-s : goal.invariant-loop-s
invariant-loop-s l = Passed l.s (λ s. every (row_tests l.t l.signals l.states s))
