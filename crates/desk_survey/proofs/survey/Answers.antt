-- `desk_survey::survey` meets its contract.
use Rattle.std.proofs.Common.{ℕ, ap, ◌∙◌}
use Rattle.std.proofs.Math.Nat.{min-eq_left}
use Rattle.desk_tasks.specs.Tasks.{pass_over, watch_for}
use Rattle.desk_tasks.proofs.Surveys.{begun-upto, surveyed}
use Rattle.desk_survey.proofs.survey.Goals as goal

pub returns : goal.returns
returns c = let whole = c.scan-s.ensures ∙ ap (λ (k : ℕ). pass_over c.args.desk.now k c.begin.result) (min-eq_left (begun-upto c.begin.ensures)) in
    surveyed c.args.t.now c.args.signals c.args.states c.args.request c.args.desk.now c.begin.result c.scan-s.result c.watch_for.result c.decide.result
    c.begin.ensures whole (c.watch_for.ensures ∙ ap (watch_for c.args.desk.now) c.wanted.ensures) c.decide.ensures
