-- `state_sets::advance` meets its contract. The loop's invariant: the successors of the members passed are in the set, no others are, and each is in the table.
use mathlib.Core.Bool.{true}
use Rattle.state_sets.specs.Sets.{Moved}
use Rattle.state_sets.proofs.advance.Given as goal

abbrev pub invariant-loop-member : goal.invariant-loop-member
invariant-loop-member l = Moved l.t l.signals l.states l.choices.count l.choices.events l.member l.from l.to true
