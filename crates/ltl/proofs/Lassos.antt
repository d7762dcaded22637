-- The labels of a lasso's positions: those of a continuation are realizable.
use mathlib.Core.Path.{◌≡◌}
use mathlib.Core.List.{List, []}
use Prim.Native.Nat.{ℕ, suc, ◌^◌, ◌<◌}
use lib.Dec.{T}
use Rattle.meaning.specs.Traces.{Alphabet, Lasso, at, Continuation}
use Rattle.meaning.specs.Formulas.{Formula}
use Rattle.ltl.specs.Sets.{on}
use Rattle.ltl.specs.Nodes.{Split, temporals, operand, obligations}
use Rattle.ltl.specs.Valuation.{valued}
use Rattle.ltl.specs.Realizable.{realizable}
use Rattle.ltl.specs.Residuals.{before}
use Rattle.ltl.proofs.Sets.{set-lt, set_same}
use Rattle.ltl.proofs.Decidable.{dec_holds}
use Rattle.ltl.proofs.Labels.{truth, label_at, label-at-right, label-step}
use Rattle.ltl.proofs.Tables.{Tabulates}
use Rattle.ltl.proofs.Stretches.{right-realizable}

abbrev pub label_of : Lasso → List Split → ℕ → ℕ
label_of ρ ns i = label_at (at ρ) (dec_holds ρ) ns i

pub label-of-lt : (ρ : Lasso) (ns : List Split) (i : ℕ) → label_of ρ ns i < 2 ^ temporals ns
label-of-lt ρ ns i = set-lt (temporals ns) (λ q. truth (at ρ) (dec_holds ρ) (operand (obligations [] ns) q) i)

-- positions of two lassos with the same truths have the same label
pub label_same : (ρ σ : Lasso) (ns : List Split) (i j : ℕ)
    → ((f : Formula) → truth (at ρ) (dec_holds ρ) f i ≡ truth (at σ) (dec_holds σ) f j) → label_of ρ ns i ≡ label_of σ ns j
label_same ρ σ ns i j h =
    set_same (temporals ns) (λ q. truth (at ρ) (dec_holds ρ) (operand (obligations [] ns) q) i)
    (λ q. truth (at σ) (dec_holds σ) (operand (obligations [] ns) q) j)
    (λ q l. h (operand (obligations [] ns) q))

-- the label here is made of the event and the next label
pub label-of-step : (ρ : Lasso) (ns : List Split) (i : ℕ)
    → (valued (at ρ i) (label_of ρ ns (suc i)) ns).label ≡ label_of ρ ns i
label-of-step ρ ns i = label-step (at ρ) (dec_holds ρ) ns i

pub label-realizable : {Σ : Alphabet} {ns : List Split} {profile fair : ℕ → ℕ → ℕ} → Tabulates Σ ns profile fair
    → (ρ : Lasso) → Continuation Σ ρ → (i : ℕ)
    → T (on (realizable Σ (2 ^ temporals ns) (before (2 ^ temporals ns) profile) fair (temporals ns)) (label_of ρ ns i))
label-realizable {ns = ns} table ρ c i =
    right-realizable table (at ρ) c i (label_of ρ ns i) (label-of-lt ρ ns i)
    (label-at-right (at ρ) (dec_holds ρ) ns i)
