-- A list with one element more at its end.
use mathlib.Core.Path.{◌≡◌, sym, ◌∙◌, subst}
use mathlib.Core.List.{List, [], ◌∷◌, ◌++◌}
use Prim.Native.Nat.{ℕ, suc, ◌<◌}
use native.Mathlib.Decide.{dec_lt}
use native.Mathlib.Omega.{arith}
use lib.ListN.{length, get_or, length-append, get_or-append}
use lib.Seq.{get_or-append_seam}

module _ {A : Type 0} (xs : List A) (x : A) where
  pub snoc-length : length (xs ++ (x ∷ [])) ≡ suc (length xs)
  snoc-length = length-append xs (x ∷ []) ∙ omega arith

  pub snoc_old : (d : A) (i : ℕ) → i < length xs → get_or (xs ++ (x ∷ [])) i d ≡ get_or xs i d
  snoc_old d i l = get_or-append xs (x ∷ []) d i l

  -- what holds of each element and of the new one holds of each
  pub snoc-each : (d : A) (P : ℕ → A → Type 0) → ((i : ℕ) → i < length xs → P i (get_or xs i d)) → P (length xs) x
      → (i : ℕ) → i < length (xs ++ (x ∷ [])) → P i (get_or (xs ++ (x ∷ [])) i d)
  snoc-each d P old new i l = go (dec_lt i (length xs))
    where
      go : Dec (i < length xs) → P i (get_or (xs ++ (x ∷ [])) i d)
      go (yes m) = subst (P i) (sym (snoc_old d i m)) (old i m)
      go (no m) =
          let q : length xs ≡ i = omega (arith, snoc-length) in
          subst (λ (j : ℕ). P j (get_or (xs ++ (x ∷ [])) j d)) q (subst (P (length xs)) (sym (get_or-append_seam xs x [] d)) new)
