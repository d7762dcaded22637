-- `run_parts::successors_of` meets its contract.
use Rattle.meaning.specs.TableFiles.{successor}
use Rattle.sequences.proofs.Loops.{Filled}
use Rattle.run_parts.proofs.successors_of.Given as goal

abbrev pub invariant-loop-e : goal.invariant-loop-e
invariant-loop-e l = Filled l.e (successor l.t l.signals l.state) l.initial.row l.row
