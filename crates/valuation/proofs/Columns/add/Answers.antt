-- `valuation::Columns::add` meets its contract. The words of the node are stored on top of the columns.
use native.Mathlib.Omega.{arith}
use Rattle.valuation.proofs.Held.{advanced-temporal, advanced-plain}
use Rattle.valuation.proofs.Columns.add.Goals as goal

pub returns-in-Some : goal.returns-in-Some
returns-in-Some c = advanced-temporal c.operand.ensures c.operand-2.ensures c.label_word-next.ensures c.node_words-words.ensures c.in-Some.is
    c.from.ensures c.from-in-Some.ensures (omega arith) (omega arith) (omega arith)

pub returns-in_default : goal.returns-in_default
returns-in_default c = advanced-plain c.operand.ensures c.operand-2.ensures c.label_word-next.ensures c.node_words-words.ensures c.in_default.is (omega arith)
