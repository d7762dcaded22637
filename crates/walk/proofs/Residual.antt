-- Laws of "leave the same remaining property": it is an equivalence, it is kept by further events, and it carries the verdicts over. Decided verdicts stay.
use mathlib.Core.Path.{◌≡◌, refl, subst}
use mathlib.Core.Logic.Iff
use mathlib.Core.List.{List, [], ◌∷◌, ◌++◌, append_assoc}
use mathlib.Core.Bool.{true, false≢true}
use Prim.Native.Nat.{ℕ, zero, suc}
use Rattle.meaning.specs.Traces.{Alphabet, Word, Lasso, prepend, Continuation}
use Rattle.meaning.specs.Verdicts.{Property, NoneSatisfies, AllSatisfy, NeverDecided, Judged, SameResidual}
use Rattle.meaning.specs.Runs.{decides}
use Rattle.meaning.specs.declared.Verdict.{Verdict}
use Rattle.meaning.specs.declared.Verdict.TheVariants.{Undecided, Satisfied, Violated, Moot}
use Rattle.residuals.specs.System.{key_after}

pub word-append : (Σ : Alphabet) (u v : List ℕ) → Word Σ u → Word Σ v → Word Σ (u ++ v)
word-append Σ [] v a b = b
word-append Σ (e ∷ u) v a b = (a.0, word-append Σ u v a.1 b)

pub key-append {ℓ} : {Key : Type ℓ} (step : Key → ℕ → Key) (k : Key) (u v : List ℕ) → key_after step k (u ++ v) ≡ key_after step (key_after step k u) v
key-append step k [] v = refl
key-append step k (e ∷ u) v = key-append step (step k e) u v

-- a word put before a continuation is one
prepended : (Σ : Alphabet) (z : List ℕ) (ρ : Lasso) → Word Σ z → Continuation Σ ρ → Continuation Σ (prepend z ρ)
prepended Σ [] ρ a c i = c i
prepended Σ (e ∷ z) ρ a c zero = a.0
prepended Σ (e ∷ z) ρ a c (suc i) = prepended Σ z ρ a.1 c i

prepend-twice : (u z : List ℕ) (ρ : Lasso) → prepend (u ++ z) ρ ≡ prepend u (prepend z ρ)
prepend-twice u z ρ = λ i. record { stem = append_assoc u z ρ.stem i; loop = ρ.loop; non_empty = ρ.non_empty }

module _ (Σ : Alphabet) (L : Property) where
  pub same_refl : (w : List ℕ) → SameResidual Σ L w w
  unfolding SameResidual
  same_refl w ρ c = Iff.rfl

  pub same-sym : (u v : List ℕ) → SameResidual Σ L u v → SameResidual Σ L v u
  unfolding SameResidual
  same-sym u v h ρ c = Iff.symm (h ρ c)

  pub same-trans : (u v w : List ℕ) → SameResidual Σ L u v → SameResidual Σ L v w → SameResidual Σ L u w
  unfolding SameResidual
  same-trans u v w h k ρ c = Iff.trans (h ρ c) (k ρ c)

  pub same-append : (u v z : List ℕ) → Word Σ z → SameResidual Σ L u v → SameResidual Σ L (u ++ z) (v ++ z)
  unfolding SameResidual
  same-append u v z a h ρ c = rw (prepend-twice u z ρ, prepend-twice v z ρ) (h (prepend z ρ) (prepended Σ z ρ a c))

  pub none-carries : (u v : List ℕ) → SameResidual Σ L u v → NoneSatisfies Σ L u → NoneSatisfies Σ L v
  unfolding SameResidual NoneSatisfies
  none-carries u v h n ρ c s = n ρ c ((h ρ c).1 s)

  pub all-carries : (u v : List ℕ) → SameResidual Σ L u v → AllSatisfy Σ L u → AllSatisfy Σ L v
  unfolding SameResidual AllSatisfy
  all-carries u v h a ρ c = (h ρ c).0 (a ρ c)

  -- ---- a verdict other than undecided is demand 2's after further events too

  none_stays : (w z : List ℕ) → Word Σ z → NoneSatisfies Σ L w → NoneSatisfies Σ L (w ++ z)
  unfolding NoneSatisfies
  none_stays w z a n ρ c s = n (prepend z ρ) (prepended Σ z ρ a c) (subst L (prepend-twice w z ρ) s)

  all-stays : (w z : List ℕ) → Word Σ z → AllSatisfy Σ L w → AllSatisfy Σ L (w ++ z)
  unfolding AllSatisfy
  all-stays w z a h ρ c = rw (prepend-twice w z ρ) (h (prepend z ρ) (prepended Σ z ρ a c))

  never-stays : (w z : List ℕ) → Word Σ z → NeverDecided Σ L w → NeverDecided Σ L (w ++ z)
  unfolding NeverDecided
  never-stays w z a m v b = rw (append_assoc w z v) (m (z ++ v) (word-append Σ z v a b))

  pub judged-stays : (w z : List ℕ) → Word Σ z → (v : Verdict) → decides v ≡ true → Judged Σ L w v → Judged Σ L (w ++ z) v
  judged-stays w z a Satisfied d j = all-stays w z a j
  judged-stays w z a Violated d j = none_stays w z a j
  judged-stays w z a Moot d j = never-stays w z a j
  judged-stays w z a Undecided d j = absurd (false≢true d)
