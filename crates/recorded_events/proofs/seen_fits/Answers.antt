-- `recorded_events::seen_fits` meets its contract.
use native.Mathlib.Omega.{arith}
use mathlib.Core.Path.{sym, ◌∙◌}
use borrow.Author.Tests.{ltb-true}
use Rattle.recorded_events.proofs.Laws.{low_fits}
use Rattle.recorded_events.proofs.seen_fits.Goals as goal
use Rattle.recorded_events.proofs.seen_fits.Goals.{then-from-bound, else-from-bound}

pub returns-then-from-bound-2 : goal.returns-then-from-bound-2
returns-then-from-bound-2 c = let h = c.if-from-bound-2.true in
    elim c.if-from-bound.branch [
      | then-from-bound w ↦ low_fits c.args.signals c.args.r (omega arith) (omega (arith, ltb-true _ _ (sym w.value-is ∙ h)))
      | else-from-bound w ↦ absurd (omega (arith, ltb-true _ _ (sym w.value-is ∙ h)))
    ]
