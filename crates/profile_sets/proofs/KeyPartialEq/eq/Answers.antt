-- `==` on keys meets its contract: two sets are the same exactly if their words are.
use Rattle.profile_sets.proofs.Words.{same-words}
use Rattle.profile_sets.proofs.KeyPartialEq.eq.Goals as goal

pub returns : goal.returns
returns c = rw (← c.self.view_is, ← c.other.view_is) (same-words c.self.inside.words c.other.inside.words c.self.invariant c.other.invariant c.eq.ensures)
