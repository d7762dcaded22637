-- Every infinite continuation has a twin among the lassos, one that satisfies the nodes of a rule after the same lists.
use mathlib.Core.Path.{◌≡◌, refl, subst, sym}
use mathlib.Core.Logic.{◌↔◌}
use mathlib.Core.List.{List, [], ◌∷◌, ◌++◌}
use Prim.Native.Nat.{ℕ, suc, ◌+◌, ◌^◌}
use native.Mathlib.Nat.{zero-add}
use native.Mathlib.Omega.{arith}
use Rattle.meaning.specs.Traces.{Alphabet, Lasso, at, prepend, Continuation}
use Rattle.meaning.specs.Formulas.{Formula, Sat, Holds}
use Rattle.ltl.specs.Nodes.{Split, plain, temporal, temporals, operand, obligation}
use Rattle.ltl.specs.Nodes.{plain_formula, temporal_formula, split_formulas}
use Rattle.ltl.specs.Valuation.{valued}
use Rattle.ltl.proofs.Truth.{iff-trans, iff-sym}
use Rattle.ltl.proofs.Shift.{Agree, shift-iff}
use Rattle.ltl.proofs.Decidable.{dec_holds}
use Rattle.ltl.proofs.Valuation.{known-none}
use Rattle.ltl.proofs.Labels.{LabelRight, values-right, label-at-right}
use Rattle.ltl.proofs.Recurring.{Labelled}
use Rattle.ltl.proofs.Stretches.{Right, right-some, right-back, right-realizable}
use Rattle.ltl.proofs.Realized.{Realized, realized}
use Rattle.ltl.proofs.Profiles.{continuation-after}
use Rattle.ltl.proofs.Tables.{Tabulates}
use Rattle.infinite.specs.Infinite.{Continuation∞, prepend∞}

-- right labels move with the events
right-shift : {w v : ℕ → ℕ} {i k : ℕ} → Agree w i v k → (fs : List Formula) (j y : ℕ) (ns : List Split)
    → LabelRight w i fs j y ns → LabelRight v k fs j y ns
right-shift a fs j y [] r = tt
right-shift a fs j y (plain p ∷ ns) r = right-shift a (fs ++ (plain_formula fs p ∷ [])) j y ns r
right-shift a fs j y (temporal t ∷ ns) r = (
  iff-trans (iff-sym (shift-iff (obligation fs t) a)) r.0,
  right-shift a (fs ++ (temporal_formula fs t ∷ [])) (suc j) y ns r.1,
)

-- v is u with one event before it
behind : (u v : ℕ → ℕ) → ((k : ℕ) → u k ≡ v (suc k)) → Agree u 0 v 1
behind u v f = record { same = λ k. let p : 1 + k ≡ suc k = omega arith in rw (p, zero-add) (f k) }

-- two traces that begin with the same event and have the same right label behind it
record Joint (ns : List Split) (u v : ℕ → ℕ) : Type 0 where
  label : ℕ
  event : u 0 ≡ v 0
  left : Right u ns 1 label
  right : Right v ns 1 label

module _ (ns : List Split) {u v : ℕ → ℕ} (j : Joint ns u v) where
  abbrev here : ℕ
  here = (valued (u 0) j.label ns).label

  -- the same event before both
  joint-more : {u' v' : ℕ → ℕ} → u' 0 ≡ v' 0 → Agree u 0 u' 1 → Agree v 0 v' 1 → Joint ns u' v'
  joint-more e a b = record {
    label = here;
    event = e;
    left = right-shift a [] 0 here ns (right-back u ns 0 j.label j.left);
    right =
        right-shift b [] 0 here ns
        (subst (λ (x : ℕ). LabelRight v 0 [] 0 (valued x j.label ns).label ns) (sym j.event) (right-back v ns 0 j.label j.right));
  }

  joint-same : (a : ℕ) → Sat u (operand (split_formulas [] ns) a) 0 ↔ Sat v (operand (split_formulas [] ns) a) 0
  joint-same a =
      iff-trans ((values-right u 0 j.label (known-none u 0) ns j.left).right a)
      (rw j.event (iff-sym ((values-right v 0 j.label (known-none v 0) ns j.right).right a)))

-- a lasso that satisfies the nodes after the same lists as σ
pub record Twin (Σ : Alphabet) (ns : List Split) (σ : ℕ → ℕ) : Type 0 where
  pub lasso : Lasso
  pub continuation : Continuation Σ lasso
  pub same : (w : List ℕ) (a : ℕ)
      → Sat (prepend∞ w σ) (operand (split_formulas [] ns) a) 0
      ↔ Holds (prepend w lasso) 0 (operand (split_formulas [] ns) a)

module _ {Σ : Alphabet} {ns : List Split} {profile fair : ℕ → ℕ → ℕ} (table : Tabulates Σ ns profile fair) (σ : ℕ → ℕ)
    (c : Continuation∞ Σ σ) where
  -- σ's first event before a lasso that begins with σ's label at 1
  module _ (l : Labelled (Right σ ns) (2 ^ temporals ns) 1) (r : Realized Σ ns l.label) where
    abbrev ρ : Lasso
    ρ = prepend (σ 0 ∷ []) r.lasso

    joint : (w : List ℕ) → Joint ns (prepend∞ w σ) (at (prepend w ρ))
    joint [] = record {
      label = l.label;
      event = refl;
      left = l.has;
      right = right-shift (behind (at r.lasso) (at ρ) (λ k. refl)) [] 0 l.label ns
          (subst (λ (y : ℕ). Right (at r.lasso) ns 0 y) r.is
          (label-at-right (at r.lasso) (dec_holds r.lasso) ns 0));
    }
    joint (e ∷ w) =
        joint-more ns (joint w) refl (behind (prepend∞ w σ) (prepend∞ (e ∷ w) σ) (λ k. refl))
        (behind (at (prepend w ρ)) (at (prepend (e ∷ w) ρ)) (λ k. refl))

    twin-of : Twin Σ ns σ
    twin-of = record {
      lasso = ρ;
      continuation = continuation-after Σ (σ 0) r.lasso (c 0) r.continuation;
      same = λ w a. joint-same ns (joint w) a;
    }

  twin-with : Labelled (Right σ ns) (2 ^ temporals ns) 1 → Twin Σ ns σ
  twin-with l = twin-of l (realized table l.label (right-realizable table σ c 1 l.label l.below l.has))

  pub twin : ¬ ¬ Twin Σ ns σ
  twin g = right-some σ ns 1 (λ l. g (twin-with l))
