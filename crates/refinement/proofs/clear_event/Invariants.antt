-- `refinement::clear_event` meets its contract.
use Rattle.std.proofs.Common.{[], get_or, set}
use Rattle.sequences.proofs.Loops.{Filled}
use Rattle.refinement.proofs.clear_event.Given as goal

abbrev pub invariant-loop-s : goal.invariant-loop-s
invariant-loop-s l = Filled l.s (λ t. set (get_or l.initial.rows t []) l.event 0) l.initial.rows l.rows
