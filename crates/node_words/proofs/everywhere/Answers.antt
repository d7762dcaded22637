-- `node_words::everywhere` meets its contract. All ones, or none.
use Rattle.node_words.proofs.Lanewise.{every-is, every-on}
use mathlib.Core.Path.{sym}
use Rattle.node_words.proofs.everywhere.Goals as goal

pub returns-then-bit : goal.returns-then-bit
returns-then-bit c = every-is every-on c.args.bit (sym c.if-bit.true)
