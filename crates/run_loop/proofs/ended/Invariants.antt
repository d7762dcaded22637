-- `run_loop::ended` meets its contract.
use Rattle.std.proofs.Common.{◌≡◌, drop, None}
use Rattle.run_loop.proofs.Laws.{going}
use Rattle.run_loop.proofs.ended.Given as goal

abbrev pub invariant-loop-i : goal.invariant-loop-i
invariant-loop-i l = going l.t l.signals l.states l.first l.i l.s (drop l.i l.events) ≡ going l.t l.signals l.states None 0 l.state l.events
