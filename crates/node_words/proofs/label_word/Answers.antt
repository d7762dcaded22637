-- `node_words::label_word` meets its contract. Each constant is checked at all 64 labels of both halves.
use native.Mathlib.Omega.{arith}
use Prim.Native.Nat.{◌≤◌}
use Rattle.node_words.proofs.Lanewise.{bits_at, bits-top, bits-past}
use mathlib.Core.Path.{refl}
use Rattle.node_words.proofs.label_word.Goals as goal

pub returns-in-0 : goal.returns-in-0
returns-in-0 c = bits_at c.args.high c.args.j 0 _ c.in-0.is refl refl

pub returns-in-1 : goal.returns-in-1
returns-in-1 c = bits_at c.args.high c.args.j 1 _ c.in-1.is refl refl

pub returns-in-2 : goal.returns-in-2
returns-in-2 c = bits_at c.args.high c.args.j 2 _ c.in-2.is refl refl

pub returns-in-3 : goal.returns-in-3
returns-in-3 c = bits_at c.args.high c.args.j 3 _ c.in-3.is refl refl

pub returns-in-4 : goal.returns-in-4
returns-in-4 c = bits_at c.args.high c.args.j 4 _ c.in-4.is refl refl

pub returns-in-5 : goal.returns-in-5
returns-in-5 c = bits_at c.args.high c.args.j 5 _ c.in-5.is refl refl

pub returns-in-6 : goal.returns-in-6
returns-in-6 c = bits-top c.args.high c.args.j _ c.in-6.is c.everywhere.ensures

pub returns-in_default : goal.returns-in_default
returns-in_default c =
    let from7 : 7 ≤ c.args.j = omega arith in
    bits-past c.args.high c.args.j from7
