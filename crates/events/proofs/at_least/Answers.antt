-- `events::at_least`: the ones of event and mask, counted, are the signals of the mask that are on.
use Rattle.std.proofs.Common.{arith, ap, ◌∙◌}
use lib.Count.{ones}
use Rattle.events.proofs.Counting.{ones-four, at-least-so-many, too_few}
use Rattle.events.proofs.at_least.Goals as goal

pub returns-then-from-on : goal.returns-then-from-on
returns-then-from-on c =
    let n = ap ones c.from-on.ensures ∙ ones-four c.args.event c.args.mask in
    rw c.from-then-from-on.ensures (at-least-so-many (ones c.from-on.result) _ c.args.count c.args.upper n (omega (arith, c.if-from-on.true, c.from.ensures)))

pub returns-else-from-on : goal.returns-else-from-on
returns-else-from-on c =
    let n = ap ones c.from-on.ensures ∙ ones-four c.args.event c.args.mask in
    rw c.from.ensures (too_few (ones c.from-on.result) _ c.args.count c.args.upper n (omega (arith, c.if-from-on.false, c.from.ensures)))
