-- `Key::words` meets its contract.
use mathlib.Core.Path.{sym}
use Rattle.profile_sets.specs.Words.{words-back}
use Rattle.profile_sets.proofs.Key.words.Goals as goal

pub returns : goal.returns
returns c = rw (← c.self.view_is) (sym (words-back c.self.inside.words c.self.invariant))
