-- `table_text::put_successors` meets its contract.
use native.Mathlib.Omega.{arith}
use mathlib.Core.Path.{ap}
use Prim.Native.Nat.{ℕ}
use mathlib.Core.List.{List, ◌∷◌}
use Rattle.text_pieces.specs.Decimal.{decimal}
use Rattle.text_pieces.proofs.Laws.{joined-more}
use Rattle.meaning.specs.TableFiles.{successor}
use Rattle.table_text.proofs.put_successors.Goals as goal

pub loop-e-preserved : goal.loop-e-preserved
loop-e-preserved c =
    let f : ℕ → List ℕ = λ n. 32 ∷ decimal (successor c.args.table.now c.args.signals c.args.state n) in
    let h = joined-more f c.loop-e.e _ _ _ c.loop-e.invariant.1 (ap (λ (n : ℕ). 32 ∷ decimal n) c.successor_at-to.ensures) c.put_successor-next.ensures.put in
    (omega (arith, c.put_successor-next.ensures.upper_bound), h)
