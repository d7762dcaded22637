-- `state_sets::spread` meets its contract. The loop's invariant: the successors for the events passed are added, and each is in the table.
use mathlib.Core.Path.{◌≡◌, sym, ap, ◌∙◌}
use mathlib.Core.Bool.{true, false}
use Prim.Native.Nat.{◌<◌}
use native.Mathlib.Omega.{arith}
use lib.ListN.{get_or}
use lib.Seq.{get_or-take}
use Rattle.std.proofs.lemmas.List.{length-take}
use Rattle.meaning.specs.TableFiles.{successor}
use Rattle.meaning.specs.Runs.{in_table}
use Rattle.state_sets.proofs.Laws.{spread-more, spread-out, in-below}
use Rattle.state_sets.proofs.spread.Goals as goal

pub returns-then-not-in_table : goal.returns-then-not-in_table
returns-then-not-in_table c = let t = c.args.t.now in
    let P = c.args.signals in
    let n = c.args.choices.now.count in
    let es = c.args.choices.now.events in
    let k = c.loop-event.event-index in
    let below : k < n = omega (arith, length-take n es) in
    let at : c.successor_at-next.result ≡ successor t P c.args.state (get_or es k 0) = c.successor_at-next.ensures ∙ ap (successor t P c.args.state) (get_or-take n es k 0 below) in
    let out : in_table t P c.args.states (successor t P c.args.state (get_or es k 0)) ≡ false = ap (in_table t P c.args.states) (sym at) ∙ sym c.in_table.ensures ∙ c.if-not-in_table.true in
    spread-out t P c.args.states es c.args.state c.args.to.now k n c.loop-event.to c.loop-event.invariant below out

pub loop-event-preserved : goal.loop-event-preserved
loop-event-preserved c = let t = c.args.t.now in
    let P = c.args.signals in
    let n = c.args.choices.now.count in
    let es = c.args.choices.now.events in
    let k = c.loop-event.event-index in
    let below : k < n = omega (arith, length-take n es) in
    let at : c.from.result ≡ successor t P c.args.state (get_or es k 0) = c.from.ensures ∙ c.successor_at-next.ensures ∙ ap (successor t P c.args.state) (get_or-take n es k 0 below) in
    let in-it : in_table t P c.args.states c.from.result ≡ true = ap (in_table t P c.args.states) c.from.ensures ∙ sym c.in_table.ensures ∙ c.if-not-in_table.false in
    spread-more t P c.args.states es c.args.state c.args.to.now k c.loop-event.to c.from.result c.loop-event.invariant at in-it (omega (arith, in-below t P c.args.states c.from.result in-it))
