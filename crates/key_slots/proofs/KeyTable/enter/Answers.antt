-- `KeyTable::enter` meets its contract.
use native.Mathlib.Omega.{arith}
use mathlib.Core.Path.{sym, ap, ap₂, subst, ◌∙◌}
use mathlib.Core.List.{List, [], ◌∷◌, ◌++◌}
use Prim.Native.Nat.{ℕ, ◌<◌}
use lib.ListN.{length}
use Rattle.std.specs.Prelude.{None}
use Rattle.walk.specs.Explore.{within}
use Rattle.key_slots.specs.Answers.{Finds}
use Rattle.key_slots.proofs.Lists.{keys-added, slotted-added, front-added, front-length, new-key}
use Rattle.key_slots.proofs.Entering.{entered-met, entered-new, entered-full}
use Rattle.key_slots.proofs.KeyTable.enter.Goals as goal

pub returns-in-Some : goal.returns-in-Some
returns-in-Some c = let fit = c.self.invariant.0 in
    let long = ap length (sym c.self.view_is) ∙ front-length fit c.args.key in
    λ s. (entered-met c.args.self.now c.args.key s c.in-Some.ensures, omega (arith, long, fit.few, c.in-Some.ensures.0))

pub returns-then-new-eq256 : goal.returns-then-new-eq256
returns-then-new-eq256 c = let fit = c.self.invariant.0 in
    let long = ap length (sym c.self.view_is) ∙ front-length fit c.args.key in
    λ s. entered-full c.args.self.now c.args.key s c.in_default.ensures (omega (arith, long))

pub invariant_of-self : goal.invariant_of-self
invariant_of-self c = let fit = c.self.invariant.0 in
    let none = subst (λ (ks : List ℕ). Finds ks c.args.key None) (sym c.self.view_is) c.in_default.ensures in
    let room : c.self.inside.count < 256 = omega (arith, fit.few, c.if-new-eq256.false) in
    (keys-added fit c.args.key room (new-key fit c.args.key none), slotted-added fit c.args.key room c.self.invariant.1 c.slot_of-slot.result c.slot_of-slot.ensures.0 c.slot_of-slot.ensures.1)

pub returns : goal.returns
returns c = let fit = c.self.invariant.0 in
    let room : c.self.inside.count < 256 = omega (arith, fit.few, c.if-new-eq256.false) in
    let long = ap length (sym c.self.view_is) ∙ front-length fit c.args.key in
    λ s. (entered-new c.args.self.now c.args.key s c.in_default.ensures (omega (arith, long)) ∙ ap₂ within (sym (front-added fit c.args.key room ∙ ap (λ (ks : List ℕ). ks ++ (c.args.key ∷ [])) c.self.view_is)) long, room)
