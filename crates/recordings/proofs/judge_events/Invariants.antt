-- `recordings::judge_events` meets its contract. The loop's invariant: the checks of the events passed refuse nothing, and the members are the states that
-- their completions reach.
use Rattle.recordings.proofs.Laws.{Passed}
use Rattle.recordings.proofs.judge_events.Given as goal

abbrev pub invariant-loop-i : goal.invariant-loop-i
invariant-loop-i l = Passed l.t l.signals l.states l.a l.b l.i l.inside l.members
