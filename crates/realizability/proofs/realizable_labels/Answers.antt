-- `realizability::realizable_labels` meets its contract. What the code finds is what crate ltl finds (proofs/Labels).
use Rattle.meaning.specs.Traces.{masked}
use Rattle.realizability.proofs.Labels.{found}
use Rattle.relations.proofs.Reach.{reaches}
use Rattle.realizability.proofs.realizable_labels.Goals as goal

pub core_row-core-requires : goal.core_row-core-requires
core_row-core-requires c = reaches (masked c.args.tables.now.events c.args.tables.now.mask) c.args.tables.now.labels c.args.tables.now.profiles.now _ _
    c.args.tables.now.sizes.1 c.of_edges-relation.ensures c.close.ensures

pub returns : goal.returns
returns c = found (masked c.args.tables.now.events c.args.tables.now.mask) c.args.tables.now.labels c.args.tables.now.profiles.now c.args.tables.now.temporals
    c.args.tables.now.fairs.now _ _ _ _ c.args.tables.now.sizes.1 c.of_edges-relation.ensures c.close.ensures c.core_row-core.ensures c.leading_row.ensures
