-- `desk_survey::scan` meets its contract.
use Rattle.std.proofs.Common.{◌≡◌, ◌-◌, ◌<◌, length, get_or, ℕ, suc, List, ◌∙◌, ap, sym, arith}
use Rattle.std.proofs.lemmas.List.{get_or_default}
use Rattle.meaning.specs.Desks.{no_watch}
use Rattle.meaning.specs.declared.Watch.{Watch}
use Rattle.desk_tasks.specs.declared.Task.{Task}
use Rattle.desk_tasks.specs.Tasks.{look_of, pass_over}
use Rattle.desk_survey.proofs.scan.Goals as goal

-- a look passes from the watches below i to those below i - 1, and below 0 there is none
pass_on : (ys : List Watch) (s : Task) (i k : ℕ) → i ≡ suc k → k < length ys → (d : Watch) (r : Task) → r ≡ look_of s (get_or ys k d) k → pass_over ys k r ≡ pass_over ys i s
unfolding pass_over
pass_on ys s i k e l d r re =
    ap (λ (x : Task). pass_over ys k x) (re ∙ ap (λ (w : Watch). look_of s w k) (get_or_default ys k d no_watch l)) ∙ ap (λ (j : ℕ). pass_over ys j s) (sym e)

pass-end : (ys : List Watch) (s : Task) (i : ℕ) → i ≡ 0 → s ≡ pass_over ys i s
unfolding pass_over
pass-end ys s i e = ap (λ (j : ℕ). pass_over ys j s) (sym e)

pub loop-number-preserved : goal.loop-number-preserved
loop-number-preserved c = pass_on c.args.desk.now c.loop-number.s c.loop-number.number (c.loop-number.number - 1) (omega arith) (omega arith) _ c.look-s.result c.look-s.ensures ∙ c.loop-number.invariant

pub returns : goal.returns
returns c = pass-end c.args.desk.now c.loop-number.s c.loop-number.number (omega arith) ∙ c.loop-number.invariant
