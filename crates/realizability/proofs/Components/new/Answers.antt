-- `realizability::Components::new` meets its contract. The loops' invariants: the entries below c are made, and each component has the sets of the events passed that can happen.
use native.Mathlib.Omega.{arith}
use mathlib.Core.Path.{refl}
use Rattle.valuation.proofs.Entries.{entries-to}
use Rattle.relations.specs.Relations.{entry}
use Rattle.realizability.proofs.Walks.{components-within}
use Rattle.realizability.proofs.Gathers.{all_none}
use Rattle.realizability.proofs.Components.new.Goals as goal

pub loop-e-init : goal.loop-e-init
loop-e-init c = record { of_labels = refl; gathered = rw c.loop-c.invariant.no_edge (all_none c.args.tables.now.mask c.args.tables.now.sizes.2) }

pub gather_event-requires-clause-within : goal.gather_event-requires-clause-within
gather_event-requires-clause-within c =
    rw c.loop-e.invariant.of_labels (components-within (entry c.args.relation.now.rows) (entries-to c.loop-c.invariant.of_labels _ (omega arith)))
