-- `labelling::mark_event` meets its contract. The loop's invariant: the profiles that the labels passed hit are marked, besides those marked before.
use Rattle.labelling.specs.Marks.{hits, Marked}
use Rattle.labelling.proofs.mark_event.Given as goal

abbrev pub invariant-loop-y : goal.invariant-loop-y
invariant-loop-y l = Marked l.y (hits l.tables.profiles.now l.real l.e) l.initial.whole l.whole
