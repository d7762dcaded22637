-- `word_of` meets its contract. The loop has the bits from i on.
use native.Mathlib.Omega.{arith}
use Rattle.std.proofs.Common.{rules}
use Rattle.profile_sets.proofs.Words.{begun_more, begun-small, begun-word}
use Rattle.profile_sets.proofs.word_of.Goals as goal

pub overflow_mul-word : goal.overflow_mul-word
overflow_mul-word c = let m = begun-small 1 c.loop-i.invariant c.loop-i-test.true (omega arith) in omega arith

pub overflow_add-word : goal.overflow_add-word
overflow_add-word c = let m = begun-small 1 c.loop-i.invariant c.loop-i-test.true (omega arith) in search rules

pub loop-i-preserved : goal.loop-i-preserved
loop-i-preserved c = begun_more c.from.result c.loop-i.invariant c.loop-i-test.true (omega arith) (search rules)

pub returns : goal.returns
returns c = begun-word c.args.bits.now c.args.j c.loop-i.invariant (omega arith)
