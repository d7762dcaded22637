-- `state_sets::spread` meets its contract. The loop's invariant: the successors for the events passed are added, and each is in the table.
use mathlib.Core.Bool.{true}
use Rattle.state_sets.specs.Sets.{Spread}
use Rattle.state_sets.proofs.spread.Given as goal

abbrev pub invariant-loop-event : goal.invariant-loop-event
invariant-loop-event l = Spread l.t l.signals l.states l.event-index l.choices.events l.state l.initial.to l.to true
