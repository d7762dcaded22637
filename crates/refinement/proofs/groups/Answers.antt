-- `refinement::groups` meets its contract.
use Rattle.std.proofs.Common.{◌∙◌, ap}
use Rattle.moore.specs.Grouping.{rounds, grouping}
use Rattle.group_slots.specs.Groups.{unmasked}
use Rattle.refinement.proofs.Laws.{first-least}
use Rattle.refinement.proofs.groups.Goals as goal

pub refined-requires : goal.refined-requires
refined-requires c = first-least c.args.successors.now.states c.args.classes.now c.first_groups.result c.first_groups.ensures

pub returns : goal.returns
unfolding grouping
returns c =
    let s = c.args.successors.now in
    c.refined.ensures ∙ ap (rounds s.states (unmasked s.events) s.states s.rows.now) c.first_groups.ensures
