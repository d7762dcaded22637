-- `realizability::Components::gather_event` meets its contract. The loop's invariant: each component has the sets of the labels passed, besides those it had.
use mathlib.Core.Path.{◌≡◌}
use lib.ListN.{length}
use Rattle.ltl.specs.Keys.{look}
use Rattle.relations.specs.Relations.{label_at}
use Rattle.realizability.specs.Core.{within_component, Gathered}
use Rattle.realizability.proofs.Components.gather_event.Given as goal

abbrev pub invariant-loop-y : goal.invariant-loop-y
invariant-loop-y l = record {
  of_labels : l.self.of ≡ l.initial.self.of;
  long : length l.self.fair ≡ 128;
  gathered : Gathered l.y l.tables.labels (within_component l.initial.self.of (label_at l.tables.labels l.tables.profiles.now) (look l.tables.fairs.now) l.e) l.initial.self.fair l.self.fair;
}
