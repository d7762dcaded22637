-- `realizability::leading_row` meets its contract. The loop's invariant: the entries below x are made.
use mathlib.Core.Path.{◌≡◌}
use mathlib.Core.Bool.{false}
use lib.ListN.{length, get_or}
use Rattle.valuation.specs.Entries.{Entries}
use Rattle.relations.specs.Relations.{entry}
use Rattle.realizability.specs.Core.{realizable_by}
use Rattle.realizability.proofs.leading_row.Given as goal

abbrev pub invariant-loop-x : goal.invariant-loop-x
invariant-loop-x l = record {
  long : length l.leading ≡ 128;
  made : Entries l.x (realizable_by l.labels (entry l.relation.rows) (λ i. get_or l.core i false)) false l.leading;
}
