-- `node_words::node_words` meets its contract. An arm for each kind; a kind past the last is false.
use native.Mathlib.Omega.{arith}
use Prim.Native.Nat.{◌≤◌}
use Rattle.node_words.proofs.Lanes.{no_kind, falsum-words, verum-words, signal-words, at-least-words, neg-words, and-words, or-words, implies-words, iff-words, xor-words, next-words, until-words, eventually-words, always-words}
use Rattle.std.proofs.lemmas.Nat.{and_le_l, or_lt, xor_lt}
use Rattle.node_words.proofs.Lanewise.{every-is, flipped}
use Rattle.node_words.proofs.node_words.Goals as goal

pub returns-in-0 : goal.returns-in-0
returns-in-0 c = falsum-words c.in-0.is c.plain.ensures

pub returns-in-1 : goal.returns-in-1
returns-in-1 c = verum-words c.in-1.is c.plain-in-1.ensures

pub returns-in-2 : goal.returns-in-2
returns-in-2 c = signal-words c.in-2.is _
    (every-is c.everywhere.ensures _ c.signal_on.ensures) c.plain-in-2.ensures

pub returns-in-3 : goal.returns-in-3
returns-in-3 c = at-least-words c.in-3.is _
    (every-is c.everywhere-in-3.ensures _ c.at_least.ensures) c.plain-in-3.ensures

pub returns-in-4 : goal.returns-in-4
returns-in-4 c = neg-words c.in-4.is _ (flipped c.args.a (omega arith)) c.plain-in-4.ensures

pub returns-in-5 : goal.returns-in-5
returns-in-5 c = and-words c.in-5.is c.plain-in-5.ensures

pub returns-in-6 : goal.returns-in-6
returns-in-6 c = or-words c.in-6.is c.plain-in-6.ensures

pub returns-in-7 : goal.returns-in-7
returns-in-7 c = implies-words c.in-7.is _ (flipped c.args.a (omega arith)) c.plain-in-7.ensures

pub returns-in-8 : goal.returns-in-8
returns-in-8 c = iff-words c.in-8.is _ (flipped _ (xor_lt 64 c.args.a c.args.b (omega arith) (omega arith))) c.plain-in-8.ensures

pub returns-in-9 : goal.returns-in-9
returns-in-9 c = xor-words c.in-9.is c.plain-in-9.ensures

pub returns-in-10 : goal.returns-in-10
returns-in-10 c = next-words c.in-10.is c.promise.ensures

pub returns-in-11 : goal.returns-in-11
returns-in-11 c = until-words c.in-11.is _ (flipped _ (or_lt 64 c.args.b _ (omega arith) (omega (arith, and_le_l c.args.a c.args.x)))) c.promise-in-11.ensures

pub returns-in-12 : goal.returns-in-12
returns-in-12 c = eventually-words c.in-12.is _ (flipped _ (or_lt 64 c.args.a c.args.x (omega arith) (omega arith))) c.promise-in-12.ensures

pub returns-in-13 : goal.returns-in-13
returns-in-13 c = always-words c.in-13.is _ (flipped c.args.a (omega arith)) c.promise-in-13.ensures

pub returns-in_default : goal.returns-in_default
returns-in_default c =
    let from14 : 14 ≤ c.args.n.kind = omega arith in
    no_kind from14 c.plain-in_default.ensures
