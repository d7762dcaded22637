-- `console::read_full` meets its contract.
use Rattle.std.proofs.Common.{rules}
use Rattle.console.proofs.Reading.{read-more}
use Rattle.console.proofs.read_full.Goals as goal

pub loop-done-preserved : goal.loop-done-preserved
loop-done-preserved g c =
    let read = c.in_ok-n.ensures in
    (search rules, read-more _ _ _ c.loop-done.buffer c.read.new.buf c.loop-done.done c.in_ok-n.n c.loop-done.invariant.0 read.bound.0 c.loop-done.invariant.1 read.bytes.0)
