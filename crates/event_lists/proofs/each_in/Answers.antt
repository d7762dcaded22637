-- `event_lists::each_in` meets its contract.
use mathlib.Core.Path.{sym, ap, ap₂, ◌∙◌}
use mathlib.Core.Bool.{Bool, ◌&&◌}
use Prim.Native.Nat.{ℕ}
use lib.Dec.{eqb}
use Rattle.sequences.proofs.Loops.{all-and}
use Rattle.meaning.specs.Bytes.{bit}
use Rattle.event_lists.specs.Masks.{in_mask}
use Rattle.event_lists.proofs.each_in.Goals as goal

pub loop-event-preserved : goal.loop-event-preserved
loop-event-preserved c = let read = c.can_happen-all.ensures ∙ ap (λ (e : ℕ). eqb (bit e c.args.mask) 1) c.from.ensures in
    ap₂ (λ (x y : Bool). x && y) c.loop-event.invariant read ∙ sym (all-and c.loop-event.event-index (in_mask c.args.mask c.args.events.now))
