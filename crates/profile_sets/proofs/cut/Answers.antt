-- `cut` meets its contract.
use Rattle.profile_sets.proofs.Halves.{cut-is}
use Rattle.profile_sets.proofs.cut.Goals as goal

pub returns : goal.returns
returns c = rw (← c.full.view_is) (cut-is c.args.a c.args.b c.full.inside.words)
