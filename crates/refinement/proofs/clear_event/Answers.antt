-- `refinement::clear_event` meets its contract.
use Rattle.std.proofs.Common.{ℕ, List, [], set, sym, ap, ◌∙◌, arith}
use Rattle.sequences.proofs.Loops.{filled_more}
use Rattle.refinement.proofs.Laws.{filled_next}
use Rattle.refinement.proofs.Clearing.{column-cleared}
use Rattle.refinement.proofs.clear_event.Goals as goal

pub loop-s-preserved : goal.loop-s-preserved
loop-s-preserved c = filled_more c.loop-s.invariant (ap (λ (row : List ℕ). set row c.args.event 0) (filled_next [] c.loop-s.invariant)) (omega arith)

pub returns : goal.returns
returns c =
    let cannot = sym c.mask_has.ensures ∙ c.if-mask_has.false in
    column-cleared _ c.args.states c.args.event c.args.rows.now c.loop-s.rows cannot c.loop-s.invariant (omega arith)
