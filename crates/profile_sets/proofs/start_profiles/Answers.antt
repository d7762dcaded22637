-- `start_profiles` meets its contract. The loop has marked the profiles below p.
use Rattle.profile_sets.proofs.Tables.{marked_more, marked-starts, starts_from}
use Rattle.profile_sets.proofs.start_profiles.Goals as goal

pub loop-p-init : goal.loop-p-init
loop-p-init c = marked-starts c.args.n c.args.whole.now

pub loop-p-preserved : goal.loop-p-preserved
loop-p-preserved c = marked_more c.loop-p.invariant c.loop-p-test.true (starts_from c.args.n c.args.whole.now c.loop-p.p c.loop-p-test.true c.loop-p.auto.p)
