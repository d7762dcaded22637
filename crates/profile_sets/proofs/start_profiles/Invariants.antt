-- `start_profiles` meets its contract. The loop has marked the profiles below p.
use Rattle.ltl.specs.Residuals.{rule_true}
use Rattle.profile_sets.specs.Arrays.{set_in, Marked}
use Rattle.profile_sets.proofs.start_profiles.Given as goal

abbrev pub invariant-loop-p : goal.invariant-loop-p
invariant-loop-p l = Marked l.p (rule_true l.n (set_in l.whole)) l.out
