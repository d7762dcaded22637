-- A label that leads nowhere: it is its own component, and it leads to the core where it is there.
use mathlib.Core.Path.{◌≡◌, refl, sym, ap, ◌∙◌}
use mathlib.Core.Bool.{Bool, true, false, ◌&&◌}
use mathlib.Core.List.{List}
use Prim.Native.Nat.{ℕ, zero, suc, ◌≤◌, ◌<◌}
use native.Mathlib.Omega.{arith}
use native.Mathlib.Decide.{ℕ_discrete}
use lib.Dec.{eqb}
use borrow.Author.Tests.{eq-eqb, eqb-true}
use Rattle.ltl.specs.Sets.{some_below}
use Rattle.sequences.proofs.Loops.{missed-end}
use Rattle.relations.specs.Relations.{entry, EmptyRow}
use Rattle.realizability.specs.Core.{leads_by, component_by, to_core_by, realizable_by}

both-no : (a b : Bool) → b ≡ false → (a && b) ≡ false
both-no true b e = e
both-no false b e = refl

module _ {m : List ℕ} {x : ℕ} {answer : Bool} (h : EmptyRow x m answer) (is : answer ≡ true) where
  -- it is its own component
  pub component-alone : x ≤ 128 → x ≡ component_by (entry m) x
  component-alone few = sym (missed-end (record { none = λ v l. both-no (entry m v x) (entry m x v) (h.none is v (omega (arith, l, few))) }) x refl)

  -- it leads to the core where it is there
  module _ (core : ℕ → Bool) where
    elsewhere : (c : ℕ) → c < 128 → (x ≡ c → ⊥) → to_core_by (entry m) core x c ≡ false
    elsewhere c l n = go (core c)
      where
        leads : (b : Bool) → eqb x c ≡ b → entry m x c ≡ false → elim b [ true ↦ true | false ↦ entry m x c ] ≡ false
        leads true e z = absurd (n (eqb-true x c e))
        leads false e z = z

        go : (b : Bool) → elim b [ true ↦ leads_by (entry m) x c | false ↦ false ] ≡ false
        go true = leads (eqb x c) refl (h.none is c l)
        go false = refl

    here : to_core_by (entry m) core x x ≡ core x
    here = go (core x)
      where
        go : (b : Bool) → elim b [ true ↦ leads_by (entry m) x x | false ↦ false ] ≡ b
        go true = ap (λ (b : Bool). elim b [ true ↦ true | false ↦ entry m x x ]) (eq-eqb x x refl)
        go false = refl

    none-to : (n : ℕ) → n ≤ 128 → n ≤ x → some_below n (to_core_by (entry m) core x) ≡ false
    none-to zero few l = refl
    none-to (suc n) few l =
        ap (λ (b : Bool). elim b [ true ↦ true | false ↦ some_below n (to_core_by (entry m) core x) ]) (elsewhere n (omega (arith, few)) (λ e. absurd (omega (arith, e, l))))
        ∙ none-to n (omega (arith, few)) (omega (arith, l))

    last : (b : Bool) → b ≡ elim b [ true ↦ true | false ↦ false ]
    last true = refl
    last false = refl

    core-step : (n : ℕ) → suc n ≤ 128 → x < suc n → (x < n → core x ≡ realizable_by n (entry m) core x) → Dec (x ≡ n) → core x ≡ realizable_by (suc n) (entry m) core x
    core-step n few l rest (yes e) =
        last (core x)
        ∙ sym (ap (λ (b : Bool). elim b [ true ↦ true | false ↦ some_below n (to_core_by (entry m) core x) ]) (ap (λ (c : ℕ). to_core_by (entry m) core x c) (sym e) ∙ here)
        ∙ ap (λ (r : Bool). elim (core x) [ true ↦ true | false ↦ r ]) (none-to n (omega (arith, few)) (omega (arith, e))))
    core-step n few l rest (no e) =
        rest (omega (arith, l, e))
        ∙ sym (ap (λ (b : Bool). elim b [ true ↦ true | false ↦ some_below n (to_core_by (entry m) core x) ]) (elsewhere n (omega (arith, few)) e))

    pub core-alone : (n : ℕ) → n ≤ 128 → x < n → core x ≡ realizable_by n (entry m) core x
    core-alone zero few l = absurd (omega (arith, l))
    core-alone (suc n) few l = core-step n few l (core-alone n (omega (arith, few))) (ℕ_discrete x n)
