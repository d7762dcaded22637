-- `state_sets::all_show` meets its contract.
use Rattle.sequences.proofs.Loops.{Passed}
use Rattle.state_sets.specs.Sets.{shows_byte}
use Rattle.state_sets.proofs.all_show.Given as goal

abbrev pub invariant-loop-state : goal.invariant-loop-state
invariant-loop-state l = Passed l.state (shows_byte l.t l.signals l.members l.verdict)
