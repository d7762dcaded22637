-- `descent::level`, `more` and `tight`, which call one another, meet their contracts. The signs that are left fall, or else the level does.
use mathlib.Core.Path.{sym, ◌∙◌}
use native.Mathlib.Omega.{arith}
use Rattle.descent.proofs.Laws.{read-over, read-leaf, read-pre, read-in, read-in-end, climbed-none, climbed-more, onto, moved-end, moved_none, moved-left, moved-right}
use Rattle.descent.proofs.+level_more_tight.Goals as goal
use Rattle.descent.proofs.+level_more_tight.Goals.{more-else-at-signs-via-then-at-signs+else-signs-at, more-else-at-signs-via-else-at-signs}

pub level-loop-next-init : goal.level-loop-next-init
level-loop-next-init t c = onto _ c.args.n c.going_on-next.result c.tight-c.ensures.within (climbed-none _) c.going_on-next.ensures

pub level-more-c-requires : goal.level-more-c-requires
level-more-c-requires t c =
    let i = rw c.in-Some.is at c.loop-next.invariant in
    let r = i.1.from c.tight-c.ensures in
    (omega (arith, c.requires, r.ahead, r.within, i.0), (omega (arith, c.requires, i.0), r.within))

pub level-loop-next-preserved : goal.level-loop-next-preserved
level-loop-next-preserved t c =
    let i = rw c.in-Some.is at c.loop-next.invariant in
    onto _ c.args.n c.going_on-next-in-Some.result c.more-c.ensures.within (climbed-more _ i.1 c.more-c.ensures) c.going_on-next-in-Some.ensures

pub tight-returns-then-c-signs : goal.tight-returns-then-c-signs
tight-returns-then-c-signs t c = read-in _ c.if-at-signs.true c.if-x-eq10.true c.level-c.ensures c.if-c-signs.true

pub tight-returns-else-c-signs : goal.tight-returns-else-c-signs
tight-returns-else-c-signs t c = read-in-end _ c.if-at-signs.true c.if-x-eq10.true c.level-c.ensures c.if-c-signs.false

pub tight-returns-then-x-lt6 : goal.tight-returns-then-x-lt6
tight-returns-then-x-lt6 t c = read-leaf _ c.if-at-signs.true c.if-x-lt6.true c.emit.ensures.0 c.emit.ensures.1

pub tight-returns-else-x-lt6 : goal.tight-returns-else-x-lt6
tight-returns-else-x-lt6 t c = read-pre _ c.if-at-signs.true c.if-x-lt6.false c.if-x-eq10.false c.tight-c.ensures c.emit-else-x-lt6.ensures.0 c.emit-else-x-lt6.ensures.1

pub tight-returns-else-at-signs : goal.tight-returns-else-at-signs
tight-returns-else-at-signs t c = read-over _ c.if-at-signs.false c.requires c.emit-else-at-signs.ensures.0 c.emit-else-at-signs.ensures.1

pub more-returns-then-rightwards : goal.more-returns-then-rightwards
more-returns-then-rightwards t c = moved-right _ c.if-at-signs.true c.if-signs-at.true (sym c.rightwards.ensures ∙ c.if-rightwards.true) c.level-d.ensures c.emit.ensures.0 c.emit.ensures.1

pub more-returns-else-rightwards : goal.more-returns-else-rightwards
more-returns-else-rightwards t c = moved-left _ c.if-at-signs.true c.if-signs-at.true (sym c.rightwards.ensures ∙ c.if-rightwards.false) c.level-d-else-rightwards.ensures c.emit-e.ensures.0 c.emit-e.ensures.1 c.more.ensures

pub more-returns-else-at-signs : goal.more-returns-else-at-signs
more-returns-else-at-signs t c = elim c.else-at-signs.branch [
  | more-else-at-signs-via-then-at-signs+else-signs-at w ↦ moved_none _ w.if-at-signs.true w.if-signs-at.false
  | more-else-at-signs-via-else-at-signs w ↦ moved-end _ w.if-at-signs.false c.requires.1
]
