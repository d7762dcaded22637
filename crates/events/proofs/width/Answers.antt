-- `events::width`: at most four signals have at most 16 events.
use Rattle.std.proofs.Common.{refl, arith}
use Rattle.events.proofs.Powers.{power_small}
use Rattle.events.proofs.width.Goals as goal

pub returns : goal.returns
returns c = (c.power.ensures.0, power_small c.args.signals 4 c.power.result 16 c.power.ensures.0 (omega arith) refl)
