-- `state_sets::advance` meets its contract. The loop's invariant: the successors of the members passed are in the set, no others are, and each is in the table.
use Rattle.state_sets.proofs.Laws.{moved_none}
use Rattle.state_sets.proofs.advance.Goals as goal

pub loop-member-init : goal.loop-member-init
loop-member-init c = moved_none c.args.t.now c.args.signals c.args.states c.args.choices.now.events c.args.choices.now.count c.args.from.now
