-- `realizability::core_row` meets its contract. Over the components, what the code finds is the core (proofs/Walks).
use native.Mathlib.Omega.{arith}
use Rattle.meaning.specs.Traces.{masked}
use Rattle.realizability.proofs.Walks.{components-within, core-components}
use Rattle.valuation.proofs.Entries.{entries-to}
use Rattle.relations.specs.Relations.{entry}
use Rattle.realizability.proofs.core_row.Goals as goal

pub is_core-requires : goal.is_core-requires
is_core-requires c = (omega arith, omega (arith, (components-within (entry c.args.relation.now.rows) c.new-components.ensures.of_labels).is c.loop-c.c c.loop-c-test.true))

pub returns : goal.returns
returns c = core-components c.args.tables.now.temporals (masked c.args.tables.now.events c.args.tables.now.mask) c.args.tables.now.labels c.args.tables.now.profiles.now c.args.tables.now.fairs.now
    (entry c.args.relation.now.rows) c.args.tables.now.sizes.1 c.requires _ _ _ c.new-components.ensures.of_labels c.new-components.ensures.gathered (entries-to c.loop-c.invariant.made _ (omega arith))
