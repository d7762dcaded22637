-- `realizability::core_row` meets its contract. The loop's invariant: the entries below c are made.
use mathlib.Core.Bool.{false}
use mathlib.Core.Path.{◌≡◌}
use lib.ListN.{length}
use Rattle.valuation.specs.Entries.{Entries}
use Rattle.relations.specs.Relations.{entry}
use Rattle.realizability.specs.Core.{core_in}
use Rattle.realizability.proofs.core_row.Given as goal

abbrev pub invariant-loop-c : goal.invariant-loop-c
invariant-loop-c l = record {
  long : length l.core ≡ 128;
  made : Entries l.c (core_in l.tables.temporals (entry l.relation.rows) l.components.of l.components.fair) false l.core;
}
