-- `monitor::construct`: the walk over the arrays is one over the rule's keys.
use Rattle.std.proofs.Common.{arith}
use Rattle.profile_sets.proofs.Tables.{tabled}
use Rattle.rule_file.specs.Reading.{rule_in}
use Rattle.monitor.proofs.Construction.{walks, valuable}
use Rattle.monitor.proofs.construct.Goals as goal

pub tables-m-requires-clause-valuable : goal.tables-m-requires-clause-valuable
tables-m-requires-clause-valuable c = valuable c.args.rule.now.signals c.args.rule.now.mask c.args.rule.now.count c.args.rule.now.nodes c.requires.0 c.requires.1

pub explore-found-requires : goal.explore-found-requires
explore-found-requires c =
    let nodes = valuable c.args.rule.now.signals c.args.rule.now.mask c.args.rule.now.count c.args.rule.now.nodes c.requires.0 c.requires.1 in
    (c.requires.0.signals.high, omega (arith, c.tables-m.ensures.value, nodes.temporal), tabled c.tables-m.ensures.tables_in)

pub conclude-requires : goal.conclude-requires
conclude-requires c =
    (c.requires.0, walks (rule_in c.args.rule.now.signals c.args.rule.now.mask c.args.rule.now.count c.args.rule.now.nodes) c.explore-found.result c.tables-m.ensures.tables_in c.explore-found.ensures)
