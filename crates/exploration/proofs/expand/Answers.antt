-- `expand` meets its contract. What the model makes of the arrays at event e is what it made of them at the start.
use native.Mathlib.Omega.{arith}
use mathlib.Core.Path.{refl, sym, ◌∙◌, subst}
use mathlib.Core.List.{List}
use Prim.Native.Nat.{ℕ}
use Rattle.walk.specs.Explore.{Explored}
use Rattle.profile_sets.specs.Arrays.{set_in}
use Rattle.key_slots.specs.Answers.{Beyond}
use Rattle.exploration.specs.Answers.{stepped, happening}
use Rattle.exploration.proofs.Explored.{held-row}
use Rattle.exploration.proofs.Steps.{expanding-none, expanding-more, expanding-over, expanding-all}
use Rattle.exploration.proofs.expand.Goals as goal

pub loop-e-init : goal.loop-e-init
loop-e-init c = expanding-none (stepped c.args.steps.now) (happening c.args.steps.now) (set_in c.spread-held.result) refl

pub returns-in_err-row : goal.returns-in_err-row
returns-in_err-row c = let s = c.args.steps.now in
    let row = held-row s.mask s.steppable c.spread-held.ensures c.key.ensures c.args.keys.now in
    rw c.from_residual.ensures (subst (λ (m : Explored ℕ (List ℕ)). Beyond m) row
    (expanding-over (stepped s) (happening s) c.loop-e.invariant c.loop-e-test.true (c.in_err-row.ensures s.events)))

pub overflow_cast-row : goal.overflow_cast-row
overflow_cast-row c = omega (arith, (c.in_ok-row.ensures c.args.steps.now.events).1)

pub loop-e-preserved : goal.loop-e-preserved
loop-e-preserved c = let s = c.args.steps.now in
    expanding-more (stepped s) (happening s) c.loop-e.invariant c.loop-e-test.true s.steppable.narrow (c.in_ok-row.ensures s.events).0

pub returns : goal.returns
returns c = let s = c.args.steps.now in
    let row = held-row s.mask s.steppable c.spread-held.ensures c.key.ensures c.args.keys.now in
    sym row ∙ expanding-all (stepped s) (happening s) c.loop-e.invariant c.loop-e-test.false
