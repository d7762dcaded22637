-- `Key::empty` meets its contract.
use Rattle.profile_sets.proofs.Words.{key-empty}
use Rattle.profile_sets.proofs.Key.empty.Goals as goal

pub returns : goal.returns
returns c = key-empty
