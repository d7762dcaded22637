-- `recorded_events::contradicts` meets its contract.
use Rattle.recorded_events.proofs.Laws.{fits_low, contradict-bits}
use Rattle.recorded_events.proofs.contradicts.Goals as goal

pub returns : goal.returns
returns c = contradict-bits c.args.signals c.args.r c.args.q (fits_low c.args.signals c.args.r c.requires)
