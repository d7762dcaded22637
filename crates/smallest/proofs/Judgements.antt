-- Where some event can happen there is a continuation, so a list of events has one verdict at most.
use mathlib.Core.Path.{◌≡◌, refl}
use mathlib.Core.List.{List, [], ◌∷◌, append-nil}
use Prim.Native.Nat.{ℕ}
use native.Mathlib.Nat.{mod-one}
use native.Mathlib.Omega.{arith}
use Rattle.meaning.specs.Traces.{Alphabet, Event, Lasso, Continuation}
use Rattle.meaning.specs.Verdicts.{Property, NoneSatisfies, AllSatisfy, NeverDecided, Judged}
use Rattle.meaning.specs.declared.Verdict.{Verdict}
use Rattle.meaning.specs.declared.Verdict.TheVariants.{Undecided, Satisfied, Violated, Moot}

-- some event can happen
pub record Live (Σ : Alphabet) : Type 0 where
  pub event : ℕ
  pub possible : Event Σ event

-- one event, for ever
abbrev for_ever : ℕ → Lasso
for_ever e = record { stem = []; loop = e ∷ []; non_empty = omega arith }

goes_on : {Σ : Alphabet} (live : Live Σ) → Continuation Σ (for_ever live.event)
goes_on live i = rw mod-one live.possible

module _ {Σ : Alphabet} (live : Live Σ) (L : Property) where
  pub exclusive : (w : List ℕ) → NoneSatisfies Σ L w → AllSatisfy Σ L w → ⊥
  unfolding NoneSatisfies AllSatisfy
  exclusive w n a = n (for_ever live.event) (goes_on live) (a (for_ever live.event) (goes_on live))

  not_none : (w : List ℕ) → NeverDecided Σ L w → NoneSatisfies Σ L w → ⊥
  unfolding NeverDecided
  not_none w m n = (m [] tt).0 (rw append-nil n)

  not-all : (w : List ℕ) → NeverDecided Σ L w → AllSatisfy Σ L w → ⊥
  unfolding NeverDecided
  not-all w m a = (m [] tt).1 (rw append-nil a)

  pub judged-one : (w : List ℕ) (v v' : Verdict) → Judged Σ L w v → Judged Σ L w v' → v ≡ v'
  judged-one w Undecided Undecided h l = refl
  judged-one w Undecided Satisfied h l = absurd (h.1 l)
  judged-one w Undecided Violated h l = absurd (h.0 l)
  judged-one w Undecided Moot h l = absurd (h.2 l)
  judged-one w Satisfied Undecided h l = absurd (l.1 h)
  judged-one w Satisfied Satisfied h l = refl
  judged-one w Satisfied Violated h l = absurd (exclusive w l h)
  judged-one w Satisfied Moot h l = absurd (not-all w l h)
  judged-one w Violated Undecided h l = absurd (l.0 h)
  judged-one w Violated Satisfied h l = absurd (exclusive w h l)
  judged-one w Violated Violated h l = refl
  judged-one w Violated Moot h l = absurd (not_none w l h)
  judged-one w Moot Undecided h l = absurd (l.2 h)
  judged-one w Moot Satisfied h l = absurd (not-all w h l)
  judged-one w Moot Violated h l = absurd (not_none w h l)
  judged-one w Moot Moot h l = refl
