-- `recordings::judge_in` meets its contract.
use mathlib.Core.Path.{sym, ◌∙◌}
use Rattle.meaning.specs.Recordings.{judged_in}
use Rattle.completions.specs.Passing.{events_judged}
use Rattle.recordings.proofs.judge_in.Goals as goal

pub judge_events-requires : goal.judge_events-requires
judge_events-requires c = (sym c.counts_fit.ensures ∙ c.if-not-counts_fit.false, sym c.lengths_fit.ensures ∙ c.if-not-lengths_fit.false)

pub returns-then-not-counts_fit : goal.returns-then-not-counts_fit
unfolding judged_in
returns-then-not-counts_fit c = rw (sym c.counts_fit.ensures ∙ c.if-not-counts_fit.true)

pub returns-then-not-lengths_fit : goal.returns-then-not-lengths_fit
unfolding judged_in
returns-then-not-lengths_fit c = rw (sym c.counts_fit.ensures ∙ c.if-not-counts_fit.false, sym c.lengths_fit.ensures ∙ c.if-not-lengths_fit.true)

pub returns : goal.returns
unfolding judged_in events_judged
returns c = rw (sym c.counts_fit.ensures ∙ c.if-not-counts_fit.false, sym c.lengths_fit.ensures ∙ c.if-not-lengths_fit.false) c.judge_events.ensures
