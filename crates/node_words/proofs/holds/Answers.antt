-- `node_words::holds` meets its contract. A set in a word has no number past 63.
use native.Mathlib.Omega.{arith}
use Rattle.node_words.proofs.Lanewise.{on-past}
use Rattle.node_words.proofs.holds.Goals as goal

pub returns-else-i-lt64 : goal.returns-else-i-lt64
returns-else-i-lt64 c = on-past c.args.set c.args.i (omega arith) (omega arith)
