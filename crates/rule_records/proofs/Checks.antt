-- Laws of a list of checks, of which code makes one after the other and refuses at the first that fails.
--     Cleared                 the checks below an index do not fail
--     first-none              none fails
--     first-cleared           what is no refusal comes where none fails
use mathlib.Core.Path.{◌≡◌, refl}
use mathlib.Core.List.{List, [], ◌∷◌}
use mathlib.Core.Bool.{Bool, true, false}
use Prim.Native.Nat.{ℕ, zero, suc, ◌<◌}
use native.Mathlib.Nat.{not-suc-le-zero, le_of_suc-le-suc}
use native.Mathlib.Omega.{arith}
use lib.ListN.{length, get_or}
use Rattle.meaning.specs.RuleFiles.{first_of}
use Rattle.meaning.specs.declared.Refusal.{Refusal}
use Rattle.meaning.specs.declared.Refusal.TheVariants.{WrongSignals}

abbrev pub fails_at : List (Bool × Refusal) → ℕ → Bool
fails_at cs i = (get_or cs i (false, WrongSignals)).0

pub record Cleared (cs : List (Bool × Refusal)) (i : ℕ) : Type 0 where
  pub none : (j : ℕ) → j < i → fails_at cs j ≡ false

tail : {c : Bool × Refusal} {cs : List (Bool × Refusal)} {i : ℕ} → Cleared (c ∷ cs) (suc i) → Cleared cs i
tail h = record { none = λ j l. h.none (suc j) (omega arith) }

cons : {c : Bool × Refusal} {cs : List (Bool × Refusal)} {i : ℕ} → c.0 ≡ false → Cleared cs i → Cleared (c ∷ cs) (suc i)
cons {c} {cs} {i} e h = record { none = go }
  where
    go : (j : ℕ) → j < suc i → fails_at (c ∷ cs) j ≡ false
    go zero l = e
    go (suc j) l = h.none j (le_of_suc-le-suc l)

module _ {A : Type 0} (refuse : Refusal → A) (x : A) where
  pub first-none : (cs : List (Bool × Refusal)) → Cleared cs (length cs) → first_of refuse cs x ≡ x
  first-none [] h = refl
  first-none (c ∷ cs) h = rw (h.none 0 (omega arith)) (first-none cs (tail h))

  -- of an answer that is no refusal
  module _ (y : A) (other : (r : Refusal) → refuse r ≡ y → ⊥) where
    pub first-cleared : (cs : List (Bool × Refusal)) → first_of refuse cs x ≡ y → Cleared cs (length cs) × (x ≡ y)
    first-cleared [] e = (record { none = λ j l. absurd (not-suc-le-zero l) }, e)
    first-cleared (c ∷ cs) e = go c.0 refl (first-cleared cs)
      where
        go : (t : Bool) → c.0 ≡ t → (first_of refuse cs x ≡ y → Cleared cs (length cs) × (x ≡ y)) → Cleared (c ∷ cs) (suc (length cs)) × (x ≡ y)
        go true q ih = absurd (other c.1 (rw q at e))
        go false q ih = let r = ih (rw q at e) in (cons q r.0, r.1)
