-- `realizability::leads_to_core` meets its contract. The loop's invariant: none of the labels passed is reached in the core.
use mathlib.Core.Path.{sym, ◌∙◌}
use mathlib.Core.Bool.{false}
use lib.ListN.{get_or}
use Rattle.relations.proofs.Searches.{some-found}
use Rattle.relations.specs.Relations.{entry}
use Rattle.realizability.specs.Core.{to_core_by}
use Rattle.realizability.proofs.Alone.{core-alone}
use Rattle.realizability.proofs.leads_to_core.Goals as goal

pub returns-then-is_empty : goal.returns-then-is_empty
returns-then-is_empty c = core-alone c.is_empty.ensures c.if-is_empty.true (λ i. get_or c.args.core.now i false) c.args.labels c.requires.0 c.requires.1

pub returns-then-leads_to : goal.returns-then-leads_to
returns-then-leads_to c =
    some-found c.args.labels (to_core_by (entry c.args.relation.now.rows) (λ i. get_or c.args.core.now i false) c.args.x) c.loop-c.c c.loop-c-test.true
    (sym c.leads_to.ensures ∙ c.if-leads_to.true)
