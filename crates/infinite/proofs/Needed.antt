-- Why AllSatisfy∞ says "none fails to": if every infinite trace satisfied what every lasso does, it would be decided of
-- every sequence of bits whether a 1 comes in it.
use mathlib.Core.Path.{◌≡◌, refl}
use mathlib.Core.Logic.{inl, inr}
use mathlib.Core.Bool.{Bool, true, false, cond}
use mathlib.Core.List.{[], ◌∷◌}
use Prim.Native.Nat.{ℕ}
use native.Mathlib.Omega.{arith}
use lib.Dec.{T}
use Rattle.meaning.specs.Bytes.{bit}
use Rattle.meaning.specs.Traces.{Event}
use Rattle.meaning.specs.Verdicts.{AllSatisfy}
use Rattle.meaning.specs.RuleFiles.{Rule, alphabet_of, property_of}
use Rattle.infinite.specs.Infinite.{Continuation∞, property_of∞, AllSatisfy∞}
use Rattle.infinite.proofs.SameOverAll.{same-over-all}

-- a 1 comes in the sequence of bits
abbrev pub Comes : (ℕ → Bool) → Type 0
Comes f = (i : ℕ) × T (f i)

-- eventually p, or not eventually p
abbrev pub either : Rule
either = record {
  signals = 1;
  mask = 3;
  nodes =
      record { kind = 2; a = 0; b = 0; upper = 0 }
      ∷ record { kind = 12; a = 0; b = 0; upper = 0 }
      ∷ record { kind = 4; a = 1; b = 0; upper = 0 }
      ∷ record { kind = 6; a = 1; b = 2; upper = 0 }
      ∷ [];
}

every-lasso : AllSatisfy (alphabet_of either) (property_of either) []
unfolding AllSatisfy∞
every-lasso = ((same-over-all either).all []).1 (λ σ c n. n (inr (λ x. n (inl x))))

-- a sequence of bits as a trace over one signal
abbrev trace : (ℕ → Bool) → ℕ → ℕ
trace f i = cond (f i) 1 0

can-happen : (b : Bool) → Event (alphabet_of either) (cond b 1 0)
can-happen true = (omega arith, tt)
can-happen false = (omega arith, tt)

on-true : (b : Bool) → bit 0 (cond b 1 0) ≡ 1 → T b
on-true true e = tt
on-true false e = absurd (omega arith)

true-on : (b : Bool) → T b → bit 0 (cond b 1 0) ≡ 1
true-on true t = refl
true-on false t = elim t [ ]

pub double-negation-needed :
    (AllSatisfy (alphabet_of either) (property_of either) []
    → (σ : ℕ → ℕ) → Continuation∞ (alphabet_of either) σ → property_of∞ either σ)
    → (f : ℕ → Bool) → Dec (Comes f)
double-negation-needed h f = go (h every-lasso (trace f) (λ i. can-happen (f i)))
  where
    go : property_of∞ either (trace f) → Dec (Comes f)
    go (inl u) = yes (u.time, on-true (f u.time) u.there)
    go (inr n) = no (λ x.
        n (record { time = x.0; after = omega arith; there = true-on (f x.0) x.1; before = λ k p q. tt }))
