-- Bits of words: a bit for each of 64 labels.
use mathlib.Core.Path.{◌≡◌, refl, sym, ap, ◌∙◌}
use mathlib.Core.Bool.{Bool, true, false, not, beq, false≢true}
use Prim.Native.Nat.{ℕ, zero, suc, ◌+◌, ◌-◌, ◌%◌, ◌^◌, ◌≤◌, ◌<◌}
use Rattle.std.specs.Int.{w64, bit_not, bit_at}
use Rattle.std.proofs.Common.{bit_xor}
use Rattle.std.proofs.lemmas.Nat.Bits.{bit_at-lt, bit_at_not, bit_at_xor, bit_at_ones}
use native.Mathlib.Decide.{ℕ_discrete}
use native.Mathlib.Omega.{arith}
use lib.Dec.{eqb}
use Rattle.std.proofs.Common.{nat_lt}
use Rattle.std.proofs.lemmas.Bool.{le-ltb}
use Rattle.ltl.specs.Sets.{on, every_below}
use Rattle.ltl.proofs.Sets.{on-zero, on_out}
use Rattle.node_words.specs.Words.{label_of, Everywhere, LabelBits}

-- a word has no bit past 63
pub on-past : (A i : ℕ) → A < 2 ^ 64 → 64 ≤ i → nat_lt i 64 ≡ on A i
on-past A i h l = le-ltb i 64 l ∙ sym (on_out A 64 i h l)

-- ---- all bits turned round

-- r has the bits that a has not
pub record Flipped (a r : ℕ) : Type 0 where
  pub flip : (l : ℕ) → l < 64 → on r l ≡ not (on a l)

other-digit : (x : ℕ) → x < 2 → eqb (1 - x) 1 ≡ not (eqb x 1)
other-digit zero h = refl
other-digit (suc zero) h = refl
other-digit (suc (suc x)) h = absurd (omega arith)

pub flipped : (a : ℕ) → a < 2 ^ 64 → Flipped a (bit_not w64 a)
flipped a h = record { flip = λ l m. ap (λ (x : ℕ). eqb x 1) (bit_at_not w64 a l h m) ∙ other-digit (bit_at a l) (bit_at-lt a l) }

-- ---- the bits that two words have not in common

odd-digit : (x y : ℕ) → x < 2 → y < 2 → eqb ((x + y) % 2) 1 ≡ not (beq (eqb x 1) (eqb y 1))
odd-digit zero zero p q = refl
odd-digit zero (suc zero) p q = refl
odd-digit (suc zero) zero p q = refl
odd-digit (suc zero) (suc zero) p q = refl
odd-digit zero (suc (suc y)) p q = absurd (omega arith)
odd-digit (suc zero) (suc (suc y)) p q = absurd (omega arith)
odd-digit (suc (suc x)) y p q = absurd (omega arith)

pub on_xor : (a b l : ℕ) → on (bit_xor a b) l ≡ not (beq (on a l) (on b l))
on_xor a b l = ap (λ (x : ℕ). eqb x 1) (bit_at_xor a b l) ∙ odd-digit (bit_at a l) (bit_at b l) (bit_at-lt a l) (bit_at-lt b l)

-- ---- the same bit everywhere

pub every-on : Everywhere true 18446744073709551615
every-on = record { all = λ l m. ap (λ (x : ℕ). eqb x 1) (bit_at_ones 64 l m) }

pub every-is : {b : Bool} {r : ℕ} → Everywhere b r → (c : Bool) → b ≡ c → Everywhere c r
every-is h c q = record { all = λ l m. h.all l m ∙ q }

-- ---- the bits of the labels

every-at : (n : ℕ) (f : ℕ → Bool) → every_below n f ≡ true → (i : ℕ) → i < n → f i ≡ true
every-at zero f h i l = absurd (omega arith)
every-at (suc n) f h i l = go (f n) refl h (ℕ_discrete i n) (λ k. every-at n f k i)
  where
    go : (b : Bool) → f n ≡ b → elim b [ true ↦ every_below n f | false ↦ false ] ≡ true → Dec (i ≡ n) → (every_below n f ≡ true → i < n → f i ≡ true) → f i ≡ true
    go true e k (yes p) r = rw p e
    go true e k (no p) r = r k (omega arith)
    go false e k d r = absurd (false≢true k)

same_bit : (a b : Bool) → beq a b ≡ true → a ≡ b
same_bit true true h = refl
same_bit false false h = refl
same_bit true false h = absurd (false≢true h)
same_bit false true h = absurd (false≢true h)

abbrev agrees : Bool → ℕ → ℕ → Bool
agrees high j r = every_below 64 (λ l. beq (on r l) (on (label_of high l) j))

label-bits : (high : Bool) (j r : ℕ) → agrees high j r ≡ true → LabelBits high j r
label-bits high j r h = record { bit = λ l m. same_bit (on r l) (on (label_of high l) j) (every-at 64 (λ l. beq (on r l) (on (label_of high l) j)) h l m) }

pub bits_at : (high : Bool) (i j r : ℕ) → i ≡ j → agrees true j r ≡ true → agrees false j r ≡ true → LabelBits high i r
bits_at true i j r e p q = rw e (label-bits true j r p)
bits_at false i j r e p q = rw e (label-bits false j r q)

-- the bit of the half
pub bits-top : (high : Bool) (i r : ℕ) → i ≡ 6 → Everywhere high r → LabelBits high i r
bits-top true i r e h = rw e (record { bit = λ l m. h.all l m ∙ sym (every-at 64 (λ l. on (64 + l) 6) refl l m) })
bits-top false i r e h = rw e (record { bit = λ l m. h.all l m ∙ sym (on_out l 6 6 (omega arith) (omega arith)) })

pub bits-past : (high : Bool) (i : ℕ) → 7 ≤ i → LabelBits high i 0
bits-past true i h = record { bit = λ l m. on-zero l ∙ sym (on_out (64 + l) 7 i (omega arith) h) }
bits-past false i h = record { bit = λ l m. on-zero l ∙ sym (on_out l 7 i (omega arith) h) }
