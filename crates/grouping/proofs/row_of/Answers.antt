-- `grouping::row_of` meets its contract.
use Rattle.std.proofs.Common.{ℕ, get_or, ap, ◌∙◌, arith}
use Rattle.sequences.proofs.Loops.{filled_more}
use Rattle.grouping.specs.Machines.{row_at}
use Rattle.grouping.proofs.Laws.{row-filled}
use Rattle.grouping.proofs.row_of.Goals as goal

pub loop-e-preserved : goal.loop-e-preserved
loop-e-preserved c = filled_more c.loop-e.invariant (ap (λ (x : ℕ). get_or c.args.numbers.now x 0) (c.from.ensures ∙ c.at.ensures)) (omega arith)

pub returns : goal.returns
unfolding row_at
returns c = row-filled c.args.successors.now.events c.loop-e.invariant (omega arith)
