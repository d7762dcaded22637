-- `recorded_events::choices_of` meets its contract.
use native.Mathlib.Omega.{arith}
use mathlib.Core.Path.{sym, ap, ap₂, ◌∙◌}
use mathlib.Core.Bool.{Bool, ◌&&◌}
use mir.Val.{bool_byte}
use Rattle.recorded_events.proofs.Laws.{chosen_more, agree-bits}
use Rattle.recorded_events.proofs.choices_of.Goals as goal

pub loop-event-preserved : goal.loop-event-preserved
loop-event-preserved c = let agree = agree-bits c.args.signals c.from-known.result (omega arith) c.loop-event.event c.from-values.result in
    let fits = ap₂ (λ (x y : Bool). x && y) c.mask_has.ensures (sym agree) in
    chosen_more _ _ _ c.loop-event.invariant (omega arith) c.from-count.result (c.from-count.ensures ∙ ap bool_byte fits)
