-- One of finitely many labels comes again and again.
use mathlib.Core.Path.{◌≡◌, subst}
use Prim.Native.Nat.{ℕ, zero, suc, ◌+◌, ◌≤◌, ◌<◌}
use native.Mathlib.Nat.{le_refl}
use native.Mathlib.Decide.{ℕ_discrete}
use native.Mathlib.Omega.{arith}
use Rattle.ltl.proofs.Unfolding.{Later}
use Rattle.ltl.proofs.Deciding.{decided}

-- a label below n that stands at position i
pub record Labelled (R : ℕ → ℕ → Type 0) (n i : ℕ) : Type 0 where
  pub label : ℕ
  pub below : label < n
  pub has : R i label

-- a label below n that comes again and again
pub record Again (R : ℕ → ℕ → Type 0) (n : ℕ) : Type 0 where
  pub label : ℕ
  pub below : label < n
  pub again : (b : ℕ) → ¬ ¬ Later (λ i. R i label) b

module _ {R : ℕ → ℕ → Type 0} where
  -- from b on there are labels below n + 1: n comes again and again, or from some position on there are smaller ones
  recurs-from : (n b : ℕ) → ((i : ℕ) → b ≤ i → ¬ ¬ Labelled R n i) → ¬ ¬ Again R n
  recurs-from zero b f g = f b (le_refl b) (λ s. let h : s.label < 0 = s.below in omega arith)
  recurs-from (suc n) b f g = decided ((k : ℕ) × ¬ Later (λ i. R i n) k) (go (recurs-from n))
    where
      smaller : (k : ℕ) → ¬ Later (λ i. R i n) k → (i : ℕ) → b + k ≤ i → ¬ ¬ Labelled R n i
      smaller k z i h g = f i (omega arith) (λ s. pick s (ℕ_discrete s.label n))
        where
          pick : (s : Labelled R (suc n) i) → Dec (s.label ≡ n) → ⊥
          pick s (yes e) = z (record { time = i; after = omega arith; there = subst (λ (c : ℕ). R i c) e s.has })
          pick s (no e) =
              let l : s.label < suc n = s.below in
              g (record { label = s.label; below = omega arith; has = s.has })

      go : ((b : ℕ) → ((i : ℕ) → b ≤ i → ¬ ¬ Labelled R n i) → ¬ ¬ Again R n)
          → Dec ((k : ℕ) × ¬ Later (λ i. R i n) k) → ⊥
      go r (yes p) = r (b + p.0) (smaller p.0 p.1) (λ a.
          let l : a.label < n = a.below in
          g (record { label = a.label; below = omega arith; again = a.again }))
      go r (no p) = g (record { label = n; below = le_refl (suc n); again = λ k z. p (k, z) })

  pub recurs : (n : ℕ) → ((i : ℕ) → ¬ ¬ Labelled R n i) → ¬ ¬ Again R n
  recurs n f = recurs-from n 0 (λ i h. f i)
