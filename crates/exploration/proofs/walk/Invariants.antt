-- `walk` meets its contract. What the model makes of the arrays at state i is what it made of them at the start.
use Prim.Native.Nat.{◌-◌}
use Rattle.exploration.specs.Answers.{stepped, happening, explore_keys}
use Rattle.exploration.proofs.Steps.{Walking}
use Rattle.exploration.proofs.walk.Given as goal

abbrev pub invariant-loop-i : goal.invariant-loop-i
invariant-loop-i l = Walking (stepped l.steps) (happening l.steps) (explore_keys (stepped l.steps) (happening l.steps)) l.i l.keys l.rows

abbrev pub decreases-loop-i : goal.decreases-loop-i
decreases-loop-i l = 256 - l.i
