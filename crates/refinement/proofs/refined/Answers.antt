-- `refinement::refined` meets its contract.
use Rattle.std.proofs.Common.{◌≡◌, ◌+◌, ◌-◌, sym, ◌∙◌, arith}
use Rattle.moore.specs.Grouping.{rounds}
use Rattle.group_slots.specs.Groups.{unmasked}
use Rattle.refinement.proofs.Laws.{next-least, same-taken}
use Rattle.refinement.proofs.Front.{rounds-stop, rounds-step}
use Rattle.refinement.proofs.refined.Goals as goal

pub returns-then-eq : goal.returns-then-eq
returns-then-eq c =
    let s = c.args.successors.now in
    let next = c.round-next in
    let same = sym (same-taken s.states next.result c.loop-done.group _ (omega arith) (omega arith) c.eq.ensures) ∙ c.if-eq.true in
    let stop = rounds-stop s.states (unmasked s.events) s.rows.now s.inside c.loop-done.group next.result next.ensures (s.states - c.loop-done.done) (omega arith) same in
    sym stop ∙ c.loop-done.invariant.same

pub loop-done-preserved : goal.loop-done-preserved
loop-done-preserved c =
    let s = c.args.successors.now in
    let next = c.round-next in
    let other = sym (same-taken s.states next.result c.loop-done.group _ (omega arith) (omega arith) c.eq.ensures) ∙ c.if-eq.false in
    let least = next-least (unmasked s.events) s.states s.rows.now c.loop-done.group next.result next.ensures in
    let step = rounds-step s.states (unmasked s.events) s.rows.now s.inside c.loop-done.group next.result next.ensures (s.states - c.loop-done.done) (s.states - (c.loop-done.done + 1)) (omega arith) other in
    record { least = least; same = sym step ∙ c.loop-done.invariant.same }

pub returns : goal.returns
unfolding rounds
returns c = let none : c.args.successors.now.states - c.loop-done.done ≡ 0 = omega arith in rw none at c.loop-done.invariant.same
