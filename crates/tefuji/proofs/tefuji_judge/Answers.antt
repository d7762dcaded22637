-- `tefuji::tefuji_judge` meets its contract.
use mathlib.Core.Path.{◌≡◌, ap, ◌∙◌}
use mathlib.Core.List.{List}
use Prim.Native.Nat.{ℕ}
use Rattle.meaning.specs.Recordings.{judged_in}
use Rattle.codes.specs.Codes.{shown_code, opening_in, judge_at}
use Rattle.codes.specs.declared.Opening.{Opening}
use Rattle.tefuji.proofs.Steps.{judge-opening}
use Rattle.tefuji.proofs.tefuji_judge.Goals as goal
use Rattle.std.proofs.Common.{Result}
use Rattle.meaning.specs.declared.Verdict.{Verdict}
use Rattle.meaning.specs.declared.Refusal.{Refusal}

answer_is : (t : List ℕ) (n : ℕ) (a b : List ℕ) {o : Opening} {s : Result Verdict Refusal} {r : ℕ} → o ≡ opening_in n → s ≡ judged_in t o.signals o.states a b → r ≡ shown_code s → r ≡ shown_code (judge_at t n a b)
answer_is t n a b oe e re = re ∙ ap shown_code (e ∙ ap (λ (k : Opening). judged_in t k.signals k.states a b) oe ∙ judge-opening t a b n)

pub returns : goal.returns
returns c = answer_is c.args.table.now c.args.opened c.args.first.now c.args.second.now c.opening_in-o.ensures c.judge_in.ensures c.shown_code.ensures
