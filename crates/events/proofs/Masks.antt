-- A mask that is not 0 has an event; that of the first n events has all of them.
use mathlib.Core.Path.{◌≡◌, refl, sym, ap, ◌∙◌}
use mathlib.Core.Logic.{◌≢◌}
use mathlib.Core.Bool.{true}
use Prim.Native.Nat.{ℕ, zero, suc, ◌-◌, ◌/◌, ◌%◌, ◌^◌, ◌<◌}
use native.Mathlib.Nat.{pow-suc, div-one, div-div-eq-div-mul, mul_comm}
use native.Mathlib.Omega.{arith}
use lib.Dec.{eqb}
use lib.Pow.{pow_pos}
use Rattle.meaning.specs.Bytes.{bit}

-- an event below n of the mask m
pub record InMask (n m : ℕ) : Type 0 where
  pub event : ℕ
  pub low : event < n
  pub on : eqb (bit event m) 1 ≡ true

halved : (m i : ℕ) → bit (suc i) m ≡ bit i (m / 2)
halved m i = ap (λ (q : ℕ). q % 2) (ap (λ (d : ℕ). m / d) (pow-suc 2 i ∙ mul_comm (2 ^ i) 2) ∙ sym (div-div-eq-div-mul m 2 (2 ^ i)))

first : {n m : ℕ} → m % 2 ≡ 1 → InMask (suc n) m
first {n} {m} q = record { event = 0; low = omega arith; on = ap (λ (b : ℕ). eqb b 1) (ap (λ (x : ℕ). x % 2) (div-one m) ∙ q) }

later : {n m : ℕ} → InMask n (m / 2) → InMask (suc n) m
later {n} {m} h = record { event = suc h.event; low = omega (arith, h.low); on = ap (λ (b : ℕ). eqb b 1) (halved m h.event) ∙ h.on }

pub in-mask : (n m : ℕ) → m < 2 ^ n → m ≢ 0 → InMask n m
in-mask zero m l q = absurd (q (omega arith))
in-mask (suc n) m l q = go (m % 2) refl (λ z. in-mask n (m / 2) (omega (arith, pow-suc 2 n)) z)
  where
    go : (r : ℕ) → m % 2 ≡ r → (m / 2 ≢ 0 → InMask n (m / 2)) → InMask (suc n) m
    go zero e f = later (f (λ z. q (omega (arith, e, z))))
    go (suc zero) e f = first e
    go (suc (suc r)) e f = absurd (omega (arith, e))

-- the mask of the first n events has each of them
pub full-bit : (n e : ℕ) → e < n → bit e (2 ^ n - 1) ≡ 1
full-bit (suc n) zero l = ap (λ (x : ℕ). x % 2) (div-one (2 ^ suc n - 1)) ∙ omega (arith, pow-suc 2 n, pow_pos n)
full-bit (suc n) (suc e) l =
    let half : (2 ^ suc n - 1) / 2 ≡ 2 ^ n - 1 = omega (arith, pow-suc 2 n, pow_pos n) in
    halved (2 ^ suc n - 1) e ∙ ap (bit e) half ∙ full-bit n e (omega arith)
full-bit zero e l = absurd (omega arith)
