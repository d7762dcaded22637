-- `openings::step_all_from` meets its contract.
use Rattle.std.proofs.Common.{◌∙◌, arith}
use Rattle.openings.proofs.Laws.{step-on, step_end}
use Rattle.openings.proofs.step_all_from.Goals as goal
use Rattle.openings.proofs.step_all_from.Goals.{in-Ok, in_default}

pub loop-event-preserved : goal.loop-event-preserved
loop-event-preserved c = elim c.match-step_from.branch [
  | in-Ok w ↦ step-on _ _ _ _ _ c.args.events.now c.loop-event.event-index c.loop-event-test.true w.in-Ok.ensures w.s-is ∙ c.loop-event.invariant
  | in_default w ↦ step-on _ _ _ _ _ c.args.events.now c.loop-event.event-index c.loop-event-test.true w.in_default.ensures w.s-is ∙ c.loop-event.invariant
]

pub returns : goal.returns
returns c = step_end c.args.opening c.args.t.now c.args.signals c.args.states c.loop-event.s c.args.events.now c.loop-event.event-index (omega arith) ∙ c.loop-event.invariant
