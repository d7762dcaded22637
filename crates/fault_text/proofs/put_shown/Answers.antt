-- `fault_text::put_shown` meets its contract.
use Rattle.fault_text.proofs.Laws.{shown-more}
use Rattle.fault_text.proofs.put_shown.Goals as goal

pub loop-i-preserved : goal.loop-i-preserved
loop-i-preserved c = shown-more c.args.out.now c.args.text.now _ c.args.at c.loop-i.i _ c.loop-i-test.true c.printable.ensures c.loop-i.invariant
