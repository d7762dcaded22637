-- `refinement::clear_impossible` meets its contract.
use Rattle.meaning.specs.Traces.{masked}
use Rattle.refinement.specs.Rows.{Cleared}
use Rattle.refinement.proofs.clear_impossible.Given as goal

abbrev pub invariant-loop-e : goal.invariant-loop-e
invariant-loop-e l = Cleared (masked l.events l.mask) l.e l.states l.initial.rows l.rows
