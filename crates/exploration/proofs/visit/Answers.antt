-- `visit` meets its contract: by the test whether the event can happen.
use mathlib.Core.Path.{sym, ◌∙◌}
use Rattle.profile_sets.specs.Arrays.{set_in}
use Rattle.exploration.specs.Answers.{stepped}
use Rattle.exploration.proofs.Steps.{visited, skipped}
use Rattle.exploration.proofs.visit.Goals as goal

pub returns-then-mask_has : goal.returns-then-mask_has
returns-then-mask_has c = visited (stepped c.args.steps.now) c.args.steps.now.mask (set_in c.args.held.now) c.args.e c.args.keys.now (sym c.mask_has.ensures ∙ c.if-mask_has.true)
    c.step.result c.step.ensures c.enter.new.self c.enter.result c.enter.ensures

pub returns-else-mask_has : goal.returns-else-mask_has
returns-else-mask_has c = skipped (stepped c.args.steps.now) c.args.steps.now.mask (set_in c.args.held.now) c.args.e c.args.keys.now (sym c.mask_has.ensures ∙ c.if-mask_has.false)
