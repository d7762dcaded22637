-- `events::can_happen`: an event past the sixteenth cannot.
use Rattle.std.proofs.Common.{ℕ, eqb, arith, sym, ap, ◌∙◌}
use borrow.Author.Tests.{le-ltb}
use Rattle.events.proofs.Counting.{off-above}
use Rattle.events.proofs.can_happen.Goals as goal

pub returns-else-event-lt16 : goal.returns-else-event-lt16
returns-else-event-lt16 c =
    le-ltb c.args.event 16 c.if-event-lt16.false ∙ sym (ap (λ (n : ℕ). eqb n 1) (off-above 16 c.args.mask c.args.event (omega arith) c.if-event-lt16.false))
