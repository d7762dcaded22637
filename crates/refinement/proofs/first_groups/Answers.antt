-- `refinement::first_groups` meets its contract.
use Rattle.std.proofs.Common.{arith}
use Rattle.sequences.proofs.Loops.{filled_more}
use Rattle.moore.specs.Grouping.{first_groups}
use Rattle.refinement.proofs.Laws.{filled-take}
use Rattle.refinement.proofs.first_groups.Goals as goal

pub loop-i-preserved : goal.loop-i-preserved
loop-i-preserved c = filled_more c.loop-i.invariant c.least_of_class.ensures (omega arith)

pub returns : goal.returns
unfolding first_groups
returns c = filled-take c.args.states c.loop-i.invariant (omega arith)
