-- A run of stores into a buffer, piece by piece (`sets` of lib.Seq).
--     Stored                     the buffer d with the bytes vs stored from place i on
--     stored-none, -more         before the first store, and after one piece more
--     stored-whole, -length      the buffer at the end
use mathlib.Core.Path.{◌≡◌, refl, ap, ◌∙◌}
use mathlib.Core.List.{List, [], ◌∷◌, ◌++◌}
use Prim.Native.Nat.{ℕ, suc, ◌+◌, ◌≤◌}
use native.Mathlib.Nat.{zero-add}
use native.Mathlib.Omega.{arith}
use lib.ListN.{length, drop, set}
use lib.Seq.{sets, sets-eq, length-sets}

module _ {A : Type 0} where
  sets-append : (l : List A) (i j : ℕ) (vs ws : List A) → j ≡ i + length vs → sets (sets l i vs) j ws ≡ sets l i (vs ++ ws)
  sets-append l i j [] ws e = ap (λ (n : ℕ). sets l n ws) (omega arith)
  sets-append l i j (v ∷ vs) ws e = sets-append (set l i v) (suc i) j vs ws (omega arith)

  pub record Stored (d : List A) (i : ℕ) (vs s : List A) : Type 0 where
    pub is : s ≡ sets d i vs

  pub stored-none : {d : List A} {i : ℕ} → Stored d i [] d
  stored-none = record { is = refl }

  pub stored_more : {d : List A} {i : ℕ} {vs s : List A} (j : ℕ) (ws r : List A) → Stored d i vs s → j ≡ i + length vs → r ≡ sets s j ws → Stored d i (vs ++ ws) r
  stored_more {d} {i} {vs} {s} j ws r h e q = record { is = q ∙ ap (λ (l : List A). sets l j ws) h.is ∙ sets-append d i j vs ws e }

  pub stored-length : {d : List A} {i : ℕ} {vs s : List A} → Stored d i vs s → length s ≡ length d
  stored-length {d} {i} {vs} h = ap length h.is ∙ length-sets d i vs

  -- stored from the front on: the bytes, and what stood past them
  pub stored-whole : {d vs s : List A} (n : ℕ) → Stored d 0 vs s → length vs ≡ n → n ≤ length d → s ≡ vs ++ drop n d
  stored-whole {d} {vs} {s} n h e l = h.is ∙ sets-eq vs d 0 (omega arith) ∙ ap (λ (k : ℕ). vs ++ drop k d) (zero-add (length vs) ∙ e)
