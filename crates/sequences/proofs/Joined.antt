-- Lists joined end to end.
--     joined_length      where each of them has the same length
--     joined_at          the element at a place of one of them
use mathlib.Core.Path.{◌≡◌, sym, ◌∙◌}
use mathlib.Core.List.{List, ◌++◌}
use Prim.Native.Nat.{ℕ, zero, suc, ◌+◌, ◌*◌, ◌≤◌, ◌<◌}
use native.Mathlib.Nat.{zero-mul, suc-mul, mul-le-mul_right}
use native.Mathlib.Decide.{ℕ_discrete}
use native.Mathlib.Omega.{arith}
use lib.ListN.{length, get_or, length-append, get_or-append}
use lib.Seq.{get_or-append-add}
use Rattle.sequences.specs.Tabulate.{joined}

module _ {A : Type 0} (k : ℕ) (f : ℕ → List A) (each : (i : ℕ) → length (f i) ≡ k) where
  pub joined_length : (n : ℕ) → length (joined n f) ≡ n * k
  joined_length zero = sym (zero-mul k)
  joined_length (suc n) = length-append (joined n f) (f n) ∙ (rw (joined_length n, each n) (sym (suc-mul n k)))

  pub joined_at : (n i j : ℕ) (d : A) → i < n → j < k → get_or (joined n f) (i * k + j) d ≡ get_or (f i) j d
  joined_at zero i j d h l = absurd (omega arith)
  joined_at (suc n) i j d h l = go (ℕ_discrete i n) (λ g. joined_at n i j d g l)
    where
      go : Dec (i ≡ n) → (i < n → get_or (joined n f) (i * k + j) d ≡ get_or (f i) j d) → get_or (joined n f ++ f n) (i * k + j) d ≡ get_or (f i) j d
      go (yes p) r = rw (p, ← joined_length n) (get_or-append-add (joined n f) (f n) j d)
      go (no q) r =
          let g : i < n = omega arith in
          let m : suc i * k ≤ n * k = mul-le-mul_right k g in
          get_or-append (joined n f) (f n) d (i * k + j) (omega (arith, joined_length n, suc-mul i k)) ∙ r g
