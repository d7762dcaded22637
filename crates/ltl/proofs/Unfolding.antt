-- An until by its unfolding at one position, and as the fair solution of that unfolding at all positions.
use mathlib.Core.Path.{◌≡◌, subst}
use mathlib.Core.Logic.{◌⊎◌, ◌↔◌, inl, inr}
use Prim.Native.Nat.{ℕ, zero, suc, ◌+◌, ◌-◌, ◌≤◌, ◌<◌}
use native.Mathlib.Nat.{le_refl}
use native.Mathlib.Decide.{ℕ_discrete, dec_le}
use native.Mathlib.Omega.{arith}
use Rattle.meaning.specs.Formulas.{Until}

module _ {A B : ℕ → Type 0} where
  pub until-now : {i : ℕ} → B i → Until A B i
  until-now {i} b = record { time = i; after = le_refl i; there = b; before = λ k p q. absurd (omega arith) }

  pub until-later : {i : ℕ} → A i → Until A B (suc i) → Until A B i
  until-later {i} a u = let l : suc i ≤ u.time = u.after in record { time = u.time; after = omega arith; there = u.there; before = λ k p q. go k p q (dec_le (suc i) k) }
    where
      go : (k : ℕ) → i ≤ k → k < u.time → Dec (suc i ≤ k) → A k
      go k p q (yes y) = u.before k y q
      go k p q (no z) = subst A (omega arith) a

  pub until-split : {i : ℕ} → Until A B i → B i ⊎ (A i × Until A B (suc i))
  until-split {i} u = go (ℕ_discrete u.time i)
    where
      go : Dec (u.time ≡ i) → B i ⊎ (A i × Until A B (suc i))
      go (yes e) = inl (subst B e u.there)
      go (no z) =
          let l : i ≤ u.time = u.after in
          inr (u.before i (le_refl i) (omega arith), record { time = u.time; after = omega arith; there = u.there; before = λ k p q. u.before k (omega arith) q })

  pub until-step : {i : ℕ} → Until A B i ↔ (B i ⊎ (A i × Until A B (suc i)))
  until-step {i} = (until-split, back)
    where
      back : B i ⊎ (A i × Until A B (suc i)) → Until A B i
      back (inl b) = until-now b
      back (inr p) = until-later p.0 p.1

-- a position from i on where P holds
pub record Later (P : ℕ → Type 0) (i : ℕ) : Type 0 where
  pub time : ℕ
  pub after : i ≤ time
  pub there : P time

module _ {A B U : ℕ → Type 0} (one : (i : ℕ) → U i ↔ (B i ⊎ (A i × U (suc i)))) where
  -- B after d positions, A before: by the unfolding, d times
  back : (d i : ℕ) → B (i + d) → ((k : ℕ) → i ≤ k → k < i + d → A k) → U i
  back zero i b a = (one i).1 (inl (subst B (omega arith) b))
  back (suc d) i b a =
      let e : i + suc d ≡ suc i + d = omega arith in
      (one i).1 (inr (a i (le_refl i) (omega arith), back d (suc i) (subst B e b) (λ k p q. a k (omega arith) (omega arith))))

  forth : (d i : ℕ) → ((¬ U (i + d)) ⊎ B (i + d)) → U i → Until A B i
  forth zero i f u = let e : i + 0 ≡ i = omega arith in elim (subst (λ (k : ℕ). (¬ U k) ⊎ B k) e f) [ inl n ↦ absurd (n u) | inr b ↦ until-now b ]
  forth (suc d) i f u =
      let e : i + suc d ≡ suc i + d = omega arith in
      elim ((one i).0 u) [ inl b ↦ until-now b | inr p ↦ until-later p.0 (forth d (suc i) (subst (λ (k : ℕ). (¬ U k) ⊎ B k) e f) p.1) ]

  pub until-fair : ((i : ℕ) → Later (λ k. (¬ U k) ⊎ B k) i) → (i : ℕ) → U i ↔ Until A B i
  until-fair fair i = (
    λ u. let l : i ≤ (fair i).time = (fair i).after in let e : (fair i).time ≡ i + ((fair i).time - i) = omega arith in
        forth ((fair i).time - i) i (subst (λ (k : ℕ). (¬ U k) ⊎ B k) e (fair i).there) u,
    λ v. let l : i ≤ v.time = v.after in let e : v.time ≡ i + (v.time - i) = omega arith in
        back (v.time - i) i (subst B e v.there) (λ k p q. v.before k p (omega arith)),
  )
