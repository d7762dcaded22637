-- `realizability::Components::new` meets its contract. The loops' invariants: the entries below c are made, and each component has the sets of the events passed that can happen.
use mathlib.Core.Path.{◌≡◌}
use lib.ListN.{length, replicate}
use Rattle.meaning.specs.Traces.{masked}
use Rattle.ltl.specs.Keys.{look}
use Rattle.valuation.specs.Entries.{Entries}
use Rattle.relations.specs.Relations.{entry, label_at}
use Rattle.realizability.specs.Core.{component_by, within_component, AllGathered}
use Rattle.realizability.proofs.Components.new.Given as goal

abbrev pub invariant-loop-c : goal.invariant-loop-c
invariant-loop-c l = record {
  long : length l.components.of ≡ 128;
  of_labels : Entries l.c (component_by (entry l.relation.rows)) 0 l.components.of;
  no_edge : l.components.fair ≡ replicate 128 0;
}

abbrev pub invariant-loop-e : goal.invariant-loop-e
invariant-loop-e l = record {
  of_labels : l.components.of ≡ l.initial.components.of;
  gathered : AllGathered (masked l.e l.tables.mask) l.tables.labels (within_component l.initial.components.of (label_at l.tables.labels l.tables.profiles.now) (look l.tables.fairs.now)) l.components.fair;
}
