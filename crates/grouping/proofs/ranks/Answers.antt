-- `grouping::ranks` meets its contract.
use Rattle.std.proofs.Common.{◌+◌, arith}
use Rattle.moore.specs.Grouping.{leads}
use Rattle.moore.proofs.Counting.{count-le}
use Rattle.sequences.proofs.Loops.{filled_more}
use Rattle.refinement.proofs.Laws.{filled-take}
use Rattle.grouping.proofs.Laws.{count-step}
use Rattle.grouping.proofs.ranks.Goals as goal

pub overflow_cast-rank : goal.overflow_cast-rank
overflow_cast-rank c = let few = count-le c.loop-i.i (leads c.args.grouped.now.group.now) in omega (arith, c.loop-i.invariant.counted)

pub overflow_add-below : goal.overflow_add-below
overflow_add-below c =
    let lead = leads c.args.grouped.now.group.now in
    let few = count-le (c.loop-i.i + 1) lead in
    let counted = count-step lead c.loop-i.i c.loop-i.below c.from-below.result c.leads.result c.loop-i.invariant.counted c.leads.ensures c.from-below.ensures in
    omega arith

pub loop-i-preserved : goal.loop-i-preserved
loop-i-preserved c =
    let lead = leads c.args.grouped.now.group.now in record {
      counted = count-step lead c.loop-i.i c.loop-i.below c.from-below.result c.leads.result c.loop-i.invariant.counted c.leads.ensures c.from-below.ensures;
      filled = filled_more c.loop-i.invariant.filled (omega (arith, c.loop-i.invariant.counted)) (omega arith);
    }

pub returns : goal.returns
returns c = filled-take c.args.grouped.now.successors.states c.loop-i.invariant.filled (omega arith)
