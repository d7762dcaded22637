-- `monitor::build`: what is read is what the file is judged to be.
use mathlib.Core.Path.{refl}
use Rattle.building.proofs.Right.{all_right}
use Rattle.monitor.proofs.Reading.{accepted-read, read-formed, read_count}
use Rattle.monitor.proofs.build.Goals as goal

pub construct-requires : goal.construct-requires
construct-requires c =
    (read-formed c.args.rule.now _ c.in_ok-rule.ensures c.in_ok-rule.rule refl, read_count c.args.rule.now _ c.in_ok-rule.ensures c.in_ok-rule.rule refl)

pub returns : goal.returns
returns c =
    let right = all_right c.args.rule.now c.args.table.now _ _ _ (accepted-read c.args.rule.now _ c.in_ok-rule.ensures c.in_ok-rule.rule refl) c.construct.ensures.value c.construct.ensures.table_after in
    record { answer = right.0; output = right.1.0; demands = right.1.1 }
