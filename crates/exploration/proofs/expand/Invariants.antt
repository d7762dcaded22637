-- `expand` meets its contract. What the model makes of the arrays at event e is what it made of them at the start.
use Rattle.profile_sets.specs.Arrays.{set_in}
use Rattle.exploration.specs.Answers.{stepped, happening, expand_key}
use Rattle.exploration.proofs.Steps.{Expanding}
use Rattle.exploration.proofs.expand.Given as goal

abbrev pub invariant-loop-e : goal.invariant-loop-e
invariant-loop-e l = Expanding (stepped l.steps) (happening l.steps) (expand_key (stepped l.steps) (happening l.steps) (set_in l.held) l.initial.keys) (set_in l.held) l.e l.keys l.row
