-- What counting between two bounds says at the ends: 0 to 0 is "none of these", and an upper count below the lower one is never met.
use mathlib.Core.Path.{◌≡◌, sym, subst}
use mathlib.Core.Logic.{◌↔◌}
use Prim.Native.Nat.{ℕ, zero, suc, ◌+◌, ◌*◌, ◌/◌, ◌^◌, ◌<◌}
use native.Mathlib.Nat.{mod-lt}
use native.Mathlib.Decide.{ℕ_discrete}
use native.Mathlib.Omega.{arith}
use lib.Dec.{lit<}
use Rattle.meaning.specs.Bytes.{bit}
use Rattle.meaning.specs.Formulas.{at_least, count_on, Sat}

-- an upper count below k: "such a node is false"
pub never : (w : ℕ → ℕ) (m k upper i : ℕ) → upper < k → ¬ Sat w (at_least m k upper) i
never w m k upper i l h = omega arith

-- of the signals below n that are in the mask m none is on in the event e
abbrev NoneOn : ℕ → ℕ → ℕ → Type 0
NoneOn n m e = (s : ℕ) → s < n → bit s m ≡ 1 → bit s e ≡ 0

module _ (m e : ℕ) where
  none-on : (n : ℕ) → count_on n m e ≡ 0 → NoneOn n m e
  none-on zero h s l b = absurd (omega arith)
  none-on (suc n) h s l b = go (ℕ_discrete s n) (none-on n (omega arith) s)
    where
      go : Dec (s ≡ n) → (s < n → bit s m ≡ 1 → bit s e ≡ 0) → bit s e ≡ 0
      go (yes q) ih =
          let here : bit n m ≡ 1 = subst (λ (k : ℕ). bit k m ≡ 1) q b in
          let sum : 1 * bit n e + count_on n m e ≡ 0 = subst (λ (x : ℕ). x * bit n e + count_on n m e ≡ 0) here h in
          subst (λ (k : ℕ). bit k e ≡ 0) (sym q) (omega arith)
      go (no q) ih = ih (omega arith) b

  on_none : (n : ℕ) → NoneOn n m e → count_on n m e ≡ 0
  on_none zero h = omega arith
  on_none (suc n) h = go (bit n m) (bit n e) (mod-lt (m / 2 ^ n) (lit< tt)) (h n (omega arith)) (on_none n (λ s l. h s (omega arith)))
    where
      go : (a b : ℕ) → a < 2 → (a ≡ 1 → b ≡ 0) → count_on n m e ≡ 0 → a * b + count_on n m e ≡ 0
      go zero b l f r = omega arith
      go (suc zero) b l f r = let off : b ≡ 0 = f (omega arith) in omega arith
      go (suc (suc a)) b l f r = absurd (omega arith)

pub none-of-these : (w : ℕ → ℕ) (m i : ℕ) → Sat w (at_least m 0 0) i ↔ ((s : ℕ) → s < 4 → bit s m ≡ 1 → bit s (w i) ≡ 0)
none-of-these w m i = (λ h. none-on m (w i) 4 (omega arith), λ h. let q : count_on 4 m (w i) ≡ 0 = on_none m (w i) 4 h in (omega arith, omega arith))
