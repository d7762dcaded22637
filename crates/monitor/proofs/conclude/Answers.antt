-- `monitor::conclude`: what the walk found is what the rule's outcome is.
use Rattle.monitor.proofs.Construction.{closed-few, closed-machine, closed-answers, over-answers}
use Rattle.monitor.proofs.conclude.Goals as goal

pub returns-in-None : goal.returns-in-None
returns-in-None c =
    let walked = rw c.in-None.is at c.requires.1 in
    let answers = over-answers c.requires.0 walked c.args.table.now in
    record { value = answers.answer; table_after = answers.output }

pub finish-requires : goal.finish-requires
finish-requires c =
    let walked = rw c.in-Some.is at c.requires.1 in
    record { signals_bound = (c.requires.0.signals.high, closed-few c.requires.0 walked); machine = closed-machine c.requires.0 walked }

pub returns-in-Some : goal.returns-in-Some
returns-in-Some c =
    let walked = rw c.in-Some.is at c.requires.1 in
    let answers = closed-answers c.requires.0 walked c.args.table.now _ _ c.finish.ensures in
    record { value = answers.answer; table_after = answers.output }
