-- Numbers in decimal.
--     decimal-one, decimal-more      one digit, and one digit more
--     decimal-u16, decimal-u64       how many digits at most
use mathlib.Core.Path.{◌≡◌, sym, ap, ◌∙◌}
use mathlib.Core.List.{List, [], ◌∷◌, ◌++◌}
use Prim.Native.Nat.{ℕ, zero, suc, ◌+◌, ◌/◌, ◌%◌, ◌^◌, ◌≤◌, ◌<◌}
use native.Mathlib.Nat.{not-suc-le-zero, pow-suc}
use native.Mathlib.Omega.{arith}
use native.Mathlib.Decide.{dec_lt}
use borrow.Author.Tests.{lt-ltb, le-ltb}
use lib.ListN.{length, length-append}
use Rattle.text_pieces.specs.Decimal.{digits, decimal}

-- one digit, whatever the fuel
digits-one : (k n : ℕ) → n < 10 → digits (suc k) n ≡ (48 + n) ∷ []
unfolding digits
digits-one k n h = rw (lt-ltb n 10 h)

digits_more : (k n : ℕ) → 10 ≤ n → digits (suc k) n ≡ digits k (n / 10) ++ ((48 + n % 10) ∷ [])
unfolding digits
digits_more k n h = rw (le-ltb n 10 h)

-- any fuel above the number is enough
digits_same : (k j n : ℕ) → n < k → n < j → digits k n ≡ digits j n
digits_same zero j n h l = absurd (not-suc-le-zero h)
digits_same (suc k) zero n h l = absurd (not-suc-le-zero l)
digits_same (suc k) (suc j) n h l = go (dec_lt n 10) (λ a b. digits_same k j (n / 10) a b)
  where
    go : Dec (n < 10) → (n / 10 < k → n / 10 < j → digits k (n / 10) ≡ digits j (n / 10)) → digits (suc k) n ≡ digits (suc j) n
    go (yes p) r = digits-one k n p ∙ sym (digits-one j n p)
    go (no q) r =
        let g : 10 ≤ n = omega arith in
        let d : n / 10 < n = omega arith in
        digits_more k n g ∙ ap (λ (l : List ℕ). l ++ ((48 + n % 10) ∷ [])) (r (omega arith) (omega arith)) ∙ sym (digits_more j n g)

pub decimal-one : (n : ℕ) → n < 10 → decimal n ≡ (48 + n) ∷ []
decimal-one n h = digits-one n n h

pub decimal-more : (n : ℕ) → 10 ≤ n → decimal n ≡ decimal (n / 10) ++ ((48 + n % 10) ∷ [])
decimal-more n h =
    digits_more n n h ∙ ap (λ (l : List ℕ). l ++ ((48 + n % 10) ∷ [])) (digits_same n (suc (n / 10)) (n / 10) (omega arith) (omega arith))

pub decimal-length : (n : ℕ) → 10 ≤ n → length (decimal n) ≡ length (decimal (n / 10)) + 1
decimal-length n h = ap length (decimal-more n h) ∙ length-append (decimal (n / 10)) ((48 + n % 10) ∷ [])

-- a number below 10 ^ k has at most k digits
decimal-short : (k n : ℕ) → n < 10 ^ suc k → length (decimal n) ≤ suc k
decimal-short zero n h = omega (arith, ap length (decimal-one n h))
decimal-short (suc k) n h = go (dec_lt n 10) (decimal-short k (n / 10) (omega (arith, pow-suc 10 (suc k))))
  where
    go : Dec (n < 10) → length (decimal (n / 10)) ≤ suc k → length (decimal n) ≤ suc (suc k)
    go (yes p) r = omega (arith, ap length (decimal-one n p))
    go (no q) r = omega (arith, decimal-length n (omega arith), r)

-- a number of two bytes has at most five digits, one of eight bytes at most twenty
pub decimal-u16 : (n : ℕ) → n < 65536 → length (decimal n) ≤ 5
decimal-u16 n h = decimal-short 4 n (omega arith)

pub decimal-u64 : (n : ℕ) → n < 2 ^ 64 → length (decimal n) ≤ 20
decimal-u64 n h = decimal-short 19 n (omega arith)
