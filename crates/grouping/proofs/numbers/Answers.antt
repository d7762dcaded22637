-- `grouping::numbers` meets its contract.
use Rattle.std.proofs.Common.{ℕ, ap, ◌∙◌, arith}
use Rattle.sequences.proofs.Loops.{filled_more}
use Rattle.moore.specs.Counting.{count_below}
use Rattle.moore.specs.Grouping.{leads}
use Rattle.moore.specs.Quotient.{number}
use Rattle.refinement.proofs.Laws.{filled-take, taken_at}
use Rattle.grouping.proofs.numbers.Goals as goal

pub loop-i-preserved : goal.loop-i-preserved
unfolding number
loop-i-preserved c =
    let g = c.args.grouped.now in
    let rank : ℕ → ℕ = λ x. count_below x (leads g.group.now) in
    let inside = g.least.least c.loop-i.i c.loop-i-test.true in
    let taken = taken_at g.successors.states c.ranks-rank.result rank c.ranks-rank.ensures c.from.result 0 (omega (arith, c.from.ensures, inside)) in
    filled_more c.loop-i.invariant (taken ∙ ap rank c.from.ensures) (omega arith)

pub returns : goal.returns
returns c = filled-take c.args.grouped.now.successors.states c.loop-i.invariant (omega arith)
