-- `labelling::mark_all` meets its contract. The loop's invariant: the profiles that the events passed hit, if they can happen, are marked, and no others.
use Rattle.meaning.specs.Traces.{masked}
use Rattle.labelling.specs.Marks.{AllMarked}
use Rattle.labelling.proofs.mark_all.Given as goal

abbrev pub invariant-loop-e : goal.invariant-loop-e
invariant-loop-e l = AllMarked (masked l.e l.tables.mask) l.tables.labels l.tables.profiles.now l.real l.whole
