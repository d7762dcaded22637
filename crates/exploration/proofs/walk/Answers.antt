-- `walk` meets its contract. What the model makes of the arrays at state i is what it made of them at the start.
use native.Mathlib.Omega.{arith}
use mathlib.Core.Path.{refl}
use Rattle.exploration.specs.Answers.{stepped, happening}
use Rattle.exploration.proofs.Steps.{walking-none, walking-more, walking-over, walking-all}
use Rattle.exploration.proofs.walk.Goals as goal

pub loop-i-init : goal.loop-i-init
loop-i-init c = walking-none (stepped c.args.steps.now) (happening c.args.steps.now) refl c.requires

pub returns-in_err-rows : goal.returns-in_err-rows
returns-in_err-rows c = let s = c.args.steps.now in
    rw c.from_residual.ensures (walking-over (stepped s) (happening s) c.loop-i.invariant (omega (arith, c.len.ensures.is)) (omega (arith, c.len.ensures.is, c.len.ensures.few)) c.in_err-rows.ensures)

pub loop-i-preserved : goal.loop-i-preserved
loop-i-preserved c = let s = c.args.steps.now in
    walking-more (stepped s) (happening s) c.loop-i.invariant (omega (arith, c.len.ensures.is)) (omega (arith, c.len.ensures.is, c.len.ensures.few)) c.in_ok-rows.field-0 c.in_ok-rows.ensures

pub returns : goal.returns
returns c = walking-all (stepped c.args.steps.now) (happening c.args.steps.now) c.loop-i.invariant (omega (arith, c.len.ensures.is))
