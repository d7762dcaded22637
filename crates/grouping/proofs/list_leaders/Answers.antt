-- `grouping::list_leaders` meets its contract.
use Rattle.std.proofs.Common.{◌+◌, arith}
use Rattle.moore.specs.Grouping.{leads}
use Rattle.moore.proofs.Counting.{count-le}
use Rattle.grouping.proofs.Laws.{count-step, listed_more, listed-end}
use Rattle.grouping.proofs.list_leaders.Goals as goal

pub bounds-least-count : goal.bounds-least-count
bounds-least-count c = let few = count-le c.loop-i.i (leads c.args.grouped.now.group.now) in omega (arith, c.loop-i.invariant.counted)

pub overflow_add-count : goal.overflow_add-count
overflow_add-count c =
    let lead = leads c.args.grouped.now.group.now in
    let few = count-le (c.loop-i.i + 1) lead in
    let counted = count-step lead c.loop-i.i c.loop-i.count c.from-count.result c.leads.result c.loop-i.invariant.counted c.leads.ensures c.from-count.ensures in
    omega arith

pub loop-i-preserved : goal.loop-i-preserved
loop-i-preserved c =
    let lead = leads c.args.grouped.now.group.now in
    let few = count-le c.loop-i.i lead in record {
      counted = count-step lead c.loop-i.i c.loop-i.count c.from-count.result c.leads.result c.loop-i.invariant.counted c.leads.ensures c.from-count.ensures;
      listed = listed_more c.loop-i.i c.loop-i.count lead c.loop-i.least c.loop-i.invariant.listed c.loop-i.invariant.counted (omega (arith, c.loop-i.invariant.counted));
    }

pub returns-clause-listed : goal.returns-clause-listed
returns-clause-listed c =
    let g = c.args.grouped.now in
    listed-end g.successors.states c.loop-i.i c.loop-i.count g.group.now c.loop-i.least c.loop-i.invariant.listed (omega arith) c.loop-i.invariant.counted

pub returns-clause-few : goal.returns-clause-few
returns-clause-few c = let few = count-le c.loop-i.i (leads c.args.grouped.now.group.now) in omega (arith, c.loop-i.invariant.counted)
