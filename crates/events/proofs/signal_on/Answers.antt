-- `events::signal_on`: a signal past the eighth is off.
use Rattle.std.proofs.Common.{ℕ, eqb, arith, sym, ap, ◌∙◌}
use borrow.Author.Tests.{le-ltb}
use Rattle.events.proofs.Counting.{off-above}
use Rattle.events.proofs.signal_on.Goals as goal

pub returns-else-signal-lt8 : goal.returns-else-signal-lt8
returns-else-signal-lt8 c =
    le-ltb c.args.signal 8 c.if-signal-lt8.false ∙ sym (ap (λ (n : ℕ). eqb n 1) (off-above 8 c.args.event c.args.signal (omega arith) c.if-signal-lt8.false))
