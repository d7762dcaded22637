-- `labelling::tables` meets its contract. The arrays hold the tables (proofs/Computed).
use native.Mathlib.Omega.{arith}
use lib.ListN.{take}
use Rattle.labelling.proofs.Computed.{rule-of, all-computed}
use Rattle.labelling.proofs.tables.Goals as goal

pub returns-clause-tables_in : goal.returns-clause-tables_in
returns-clause-tables_in c = rw (← c.from.ensures)
    (all-computed c.args.signals c.args.mask _ _ _ (take c.from.result c.args.nodes) c.temporal_count-temporals.ensures c.power-labels.ensures.0 c.width-events.ensures.0
    (rule-of c.from.result c.args.nodes (omega arith) (rw c.from.ensures c.requires.valuable))
    (record { profile = c.tables.ensures.profiles; fair = c.tables.ensures.fairs; labels = c.realizable_labels-real.ensures; marks = c.mark_all.ensures }))
