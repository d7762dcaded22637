-- `KeyTable::find` meets its contract. The loop goes down the keys of the slot.
use native.Mathlib.Omega.{arith}
use mathlib.Core.Path.{subst, ◌∙◌}
use mathlib.Core.List.{List}
use Prim.Native.Nat.{ℕ}
use Rattle.std.specs.Prelude.{Some, None}
use Rattle.key_slots.specs.Answers.{Finds}
use Rattle.key_slots.proofs.Lists.{found-met, found-none, read-met}
use Rattle.key_slots.proofs.KeyTable.find.Goals as goal

pub returns-then-eq : goal.returns-then-eq
returns-then-eq c = let fit = c.self.invariant.0 in
    let at = (c.loop-i.invariant.1.there c.loop-i-test.true).0 in
    let same = read-met c.self.inside.keys c.args.key.now c.loop-i.i _ (omega (arith, fit.few, fit.room)) c.eq.ensures ∙ c.if-eq.true in
    subst (λ (ks : List ℕ). Finds ks c.args.key.now (Some c.loop-i.i)) c.self.view_is (found-met fit c.args.key.now c.loop-i.i at same)

pub returns-then-eq-2 : goal.returns-then-eq-2
returns-then-eq-2 c = let fit = c.self.invariant.0 in
    let same = read-met c.self.inside.keys c.args.key.now 0 _ (omega (arith, fit.room)) c.eq-2.ensures ∙ c.if-eq-2.true in
    subst (λ (ks : List ℕ). Finds ks c.args.key.now (Some 0)) c.self.view_is (found-met fit c.args.key.now 0 fit.some same)

pub returns-else-eq-2 : goal.returns-else-eq-2
returns-else-eq-2 c = let fit = c.self.invariant.0 in
    let other = read-met c.self.inside.keys c.args.key.now 0 _ (omega (arith, fit.room)) c.eq-2.ensures ∙ c.if-eq-2.false in
    subst (λ (ks : List ℕ). Finds ks c.args.key.now None) c.self.view_is (found-none fit c.args.key.now c.loop-i.invariant.1 (omega arith) other)
