-- `Key::pack` meets its contract.
use Rattle.profile_sets.proofs.Words.{packed-key}
use Rattle.profile_sets.proofs.Key.pack.Goals as goal

pub returns : goal.returns
returns c = rw (c.word_of.ensures, c.word_of-2.ensures, c.word_of-3.ensures, c.word_of-4.ensures) (packed-key c.args.bits.now)
