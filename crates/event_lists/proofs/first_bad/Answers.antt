-- `event_lists::first_bad`: the events before the first outside are in the mask.
use Rattle.std.proofs.Common.{ℕ, not, eqb, length, refl, sym, ap, ◌∙◌, arith}
use borrow.Author.Tests.{lt-ltb, le-ltb}
use Rattle.sequences.proofs.Loops.{missed-none, missed_more, missed-found, missed-end}
use Rattle.meaning.specs.Bytes.{bit}
use Rattle.event_lists.proofs.Laws.{none-outside}
use Rattle.event_lists.proofs.first_bad.Goals as goal

pub returns-then-all_in : goal.returns-then-all_in
returns-then-all_in c =
    let n = length c.args.events.now in
    let e = missed-end (none-outside c.args.mask c.args.events.now (sym c.all_in.ensures ∙ c.if-all_in.true)) n refl in
    rw (e, le-ltb n n (omega arith))

pub loop-i-init : goal.loop-i-init
loop-i-init c = missed-none

pub loop-i-preserved : goal.loop-i-preserved
loop-i-preserved c = let read = c.can_happen.ensures ∙ ap (λ (e : ℕ). eqb (bit e c.args.mask) 1) c.from.ensures in
    missed_more c.loop-i.invariant (ap not (sym read ∙ c.if-not-can_happen.false))

pub returns-then-not-can_happen : goal.returns-then-not-can_happen
returns-then-not-can_happen c =
    let n = length c.args.events.now in
    let read = c.can_happen.ensures ∙ ap (λ (e : ℕ). eqb (bit e c.args.mask) 1) c.from.ensures in
    let e = missed-found c.loop-i.invariant n c.loop-i-test.true (ap not (sym read ∙ c.if-not-can_happen.true)) in
    rw (e, lt-ltb c.loop-i.i n c.loop-i-test.true)

pub returns : goal.returns
returns c =
    let n = length c.args.events.now in
    let e = missed-end c.loop-i.invariant n (omega arith) in
    rw (e, le-ltb n n (omega arith))
