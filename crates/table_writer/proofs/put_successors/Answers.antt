-- `table_writer::put_successors`: one successor more.
use Rattle.meaning.specs.Traces.{masked}
use Rattle.sequences.proofs.Stores.{stored-length}
use Rattle.table_writer.proofs.Laws.{successors-more}
use Rattle.table_writer.proofs.put_successors.Goals as goal

pub loop-e-preserved : goal.loop-e-preserved
loop-e-preserved c =
    let h = successors-more (masked c.args.events c.args.mask) c.args.row c.loop-e.e _ _ c.loop-e.invariant.1 c.written_successor.ensures c.put_u16.ensures in
    (stored-length h, h)
