-- Recorded events, bit by bit: what the code asks of whole numbers is what the definitions ask of each signal.
--     fits_bits, agree-bits, contradict-bits     the three tests
--     same_bits, digit                           numbers by their bits, and facts of 0 and 1
--     Chosen, chosen_none, -more, -all           the loop that collects the events that agree
use mathlib.Core.Path.{◌≡◌, refl, sym, ap, ap₂, ◌∙◌}
use mathlib.Core.Bool.{Bool, true, false, cond, not, ◌&&◌}
use mathlib.Core.List.{List, [], ◌∷◌, ◌++◌, append-nil}
use Prim.Native.Nat.{ℕ, zero, suc, ◌+◌, ◌/◌, ◌%◌, ◌^◌, ◌≤◌, ◌<◌}
use native.Mathlib.Nat.{add-zero, zero-div, mod-lt, div-one, pow-suc, mul_comm, div-div-eq-div-mul}
use native.Mathlib.Decide.{ℕ_discrete}
use native.Mathlib.Numerals.{add-one}
use native.Mathlib.Omega.{arith}
use borrow.Author.Tests.{ltb-true, lt-ltb, le-ltb, eq-eqb, ne_eqb}
use lib.Dec.{eqb, ltb, lit<}
use mir.Val.{bool_byte}
use lib.Bits.{bit_and, bit_xor, and_shr, and_mod, xor_shr, xor_mod, and_le_l}
use lib.ListN.{length, take, set, length-set}
use lib.Seq.{take-set-le, take-suc-set}
use Rattle.sequences.specs.Tabulate.{all_below, up_to}
use Rattle.sequences.proofs.Loops.{tabulate-snoc}
use Rattle.sequences.proofs.Tests.{fails, holds, last}
use Rattle.sequences.proofs.Pointwise.{all_same}
use Rattle.meaning.specs.Bytes.{bit}
use Rattle.meaning.specs.Traces.{masked}
use Rattle.meaning.specs.Monitors.{keep}
use Rattle.meaning.specs.Recordings.{knows, seen_fits, agrees, choices, contradict}
use Rattle.meaning.specs.declared.Seen.{Seen}

-- ---- numbers by their bits

halved : (s n : ℕ) → bit (suc s) n ≡ bit s (n / 2)
halved s n = ap (λ (q : ℕ). q % 2) (ap (λ (d : ℕ). n / d) (pow-suc 2 s ∙ mul_comm (2 ^ s) 2) ∙ sym (div-div-eq-div-mul n 2 (2 ^ s)))

-- two numbers of P bits are the same exactly if each bit is
pub same_bits : (P x y : ℕ) → x < 2 ^ P → y < 2 ^ P → all_below P (λ s. eqb (bit s x) (bit s y)) ≡ eqb x y
same_bits zero x y l m = sym (eq-eqb x y (omega arith))
same_bits (suc P) x y l m =
    ap₂ (λ (b c : Bool). cond b c false) (ap₂ (λ (a b : ℕ). eqb (a % 2) (b % 2)) (div-one x) (div-one y))
    (all_same P (λ s. eqb (bit (suc s) x) (bit (suc s) y)) (λ s. eqb (bit s (x / 2)) (bit s (y / 2))) (λ s b. ap₂ eqb (halved s x) (halved s y))
    ∙ same_bits P (x / 2) (y / 2) (omega (arith, pow-suc 2 P)) (omega (arith, pow-suc 2 P)))
    ∙ go (ℕ_discrete (x % 2) (y % 2)) (ℕ_discrete (x / 2) (y / 2))
  where
    go : Dec (x % 2 ≡ y % 2) → Dec (x / 2 ≡ y / 2) → cond (eqb (x % 2) (y % 2)) (eqb (x / 2) (y / 2)) false ≡ eqb x y
    go (yes a) (yes b) = rw (eq-eqb (x % 2) (y % 2) a, eq-eqb (x / 2) (y / 2) b, eq-eqb x y (omega (arith, a, b)))
    go (yes a) (no b) = rw (eq-eqb (x % 2) (y % 2) a, ne_eqb (x / 2) (y / 2) b, ne_eqb x y (λ e. b (ap (λ (n : ℕ). n / 2) e)))
    go (no a) d = rw (ne_eqb (x % 2) (y % 2) a, ne_eqb x y (λ e. a (ap (λ (n : ℕ). n % 2) e)))

and-bit : (s x y : ℕ) → bit s (bit_and x y) ≡ bit_and (bit s x) (bit s y)
and-bit s x y = ap (λ (n : ℕ). n % 2) (and_shr x y s) ∙ and_mod (x / 2 ^ s) (y / 2 ^ s) 1

xor-bit : (s x y : ℕ) → bit s (bit_xor x y) ≡ bit_xor (bit s x) (bit s y)
xor-bit s x y = ap (λ (n : ℕ). n % 2) (xor_shr x y s) ∙ xor_mod (x / 2 ^ s) (y / 2 ^ s) 1

-- ---- what is so of 0 and 1 is so of a bit

pub digit : (F : ℕ → Type 0) → F 0 → F 1 → (s n : ℕ) → F (bit s n)
digit F p q s n = go (bit s n) (mod-lt (n / 2 ^ s) (lit< tt))
  where
    go : (b : ℕ) → b < 2 → F b
    go zero l = p
    go (suc zero) l = q
    go (suc (suc b)) l = absurd (omega arith)

abbrev Fit : ℕ → ℕ → Type 0
Fit a b = cond (eqb a 1) true (eqb b 0) ≡ eqb (bit_and a b) b

abbrev Agree : ℕ → ℕ → ℕ → Type 0
Agree a b c = cond (eqb a 1) (eqb b c) true ≡ eqb (bit_and a (bit_xor b c)) 0

fit-bit : (s k v : ℕ) → Fit (bit s k) (bit s v)
fit-bit s k v = digit (λ a. Fit a (bit s v)) (digit (Fit 0) refl refl s v) (digit (Fit 1) refl refl s v) s k

agree-bit : (s k x y : ℕ) → Agree (bit s k) (bit s x) (bit s y)
agree-bit s k x y =
    digit (λ a. Agree a (bit s x) (bit s y))
    (digit (λ b. Agree 0 b (bit s y)) (digit (Agree 0 0) refl refl s y) (digit (Agree 0 1) refl refl s y) s x)
    (digit (λ b. Agree 1 b (bit s y)) (digit (Agree 1 0) refl refl s y) (digit (Agree 1 1) refl refl s y) s x)
    s k

abbrev Both : ℕ → ℕ → Type 0
Both a b = (eqb a 1 && eqb b 1) ≡ eqb (bit_and a b) 1

both-bit : (s k m : ℕ) → Both (bit s k) (bit s m)
both-bit s k m = digit (λ a. Both a (bit s m)) (digit (Both 0) refl refl s m) (digit (Both 1) refl refl s m) s k

-- ---- the tests

module _ (P k : ℕ) (l : k < 2 ^ P) where
  and_low : (x : ℕ) → bit_and k x < 2 ^ P
  and_low x = omega (arith, and_le_l k x)

  -- no value of a signal that is unknown
  pub fits_bits : (v : ℕ) → v < 2 ^ P → all_below P (λ s. cond (eqb (bit s k) 1) true (eqb (bit s v) 0)) ≡ eqb (bit_and k v) v
  fits_bits v m =
      all_same P (λ s. cond (eqb (bit s k) 1) true (eqb (bit s v) 0)) (λ s. eqb (bit s (bit_and k v)) (bit s v))
      (λ s b. fit-bit s k v ∙ ap (λ (n : ℕ). eqb n (bit s v)) (sym (and-bit s k v)))
      ∙ same_bits P (bit_and k v) v (and_low v) m

  -- the same value at each signal that is known
  pub agree-bits : (x y : ℕ) → all_below P (λ s. cond (eqb (bit s k) 1) (eqb (bit s x) (bit s y)) true) ≡ eqb (bit_and k (bit_xor x y)) 0
  agree-bits x y =
      all_same P (λ s. cond (eqb (bit s k) 1) (eqb (bit s x) (bit s y)) true) (λ s. eqb (bit s (bit_and k (bit_xor x y))) (bit s 0))
      (λ s b. agree-bit s k x y ∙ ap₂ eqb (sym (and-bit s k (bit_xor x y) ∙ ap (bit_and (bit s k)) (xor-bit s x y))) (sym (ap (λ (n : ℕ). n % 2) (zero-div (2 ^ s)))))
      ∙ same_bits P (bit_and k (bit_xor x y)) 0 (and_low (bit_xor x y)) (omega arith)

module _ (P : ℕ) (r : Seen) where
  abbrev tests : List Bool
  tests = ltb r.known (2 ^ P) ∷ ltb r.values (2 ^ P) ∷ all_below P (λ s. cond (knows r s) true (eqb (bit s r.values) 0)) ∷ []

  -- a bit at or above P
  pub wrong-known : 2 ^ P ≤ r.known → false ≡ seen_fits P r
  wrong-known l = sym (fails tests 0 (le-ltb r.known (2 ^ P) l))

  pub wrong-values : 2 ^ P ≤ r.values → false ≡ seen_fits P r
  wrong-values l = sym (fails tests 1 (le-ltb r.values (2 ^ P) l))

  -- no such bit
  pub low_fits : r.known < 2 ^ P → r.values < 2 ^ P → eqb (bit_and r.known r.values) r.values ≡ seen_fits P r
  low_fits l m = sym (rw (lt-ltb r.known (2 ^ P) l, lt-ltb r.values (2 ^ P) m, fits_bits P r.known l r.values m) (sym (last _)))

  pub fits_low : seen_fits P r ≡ true → r.known < 2 ^ P
  fits_low e = ltb-true r.known (2 ^ P) (holds tests e 0)

pub contradict-bits : (P : ℕ) (r q : Seen) → r.known < 2 ^ P
    → not (eqb (bit_and (bit_and r.known q.known) (bit_xor r.values q.values)) 0) ≡ contradict P r q
contradict-bits P r q l =
    let k = bit_and r.known q.known in
    let value : ℕ → Bool = λ s. eqb (bit s r.values) (bit s q.values) in
    ap not (sym (agree-bits P k (and_low P r.known l q.known) r.values q.values)
    ∙ all_same P (λ s. cond (eqb (bit s k) 1) (value s) true) (λ s. cond (eqb (bit s r.known) 1 && eqb (bit s q.known) 1) (value s) true)
    (λ s b. ap (λ (t : Bool). cond t (value s) true) (ap (λ (n : ℕ). eqb n 1) (and-bit s r.known q.known) ∙ sym (both-bit s r.known q.known))))

-- ---- the events that agree, collected

keep-more : (p : ℕ → Bool) (l : List ℕ) (x : ℕ) → keep p (l ++ (x ∷ [])) ≡ keep p l ++ cond (p x) (x ∷ []) []
keep-more p [] x = refl
keep-more p (y ∷ l) x = go (p y) (keep-more p l x)
  where
    go : (b : Bool) → keep p (l ++ (x ∷ [])) ≡ keep p l ++ cond (p x) (x ∷ []) [] → cond b (y ∷ keep p (l ++ (x ∷ []))) (keep p (l ++ (x ∷ []))) ≡ cond b (y ∷ keep p l) (keep p l) ++ cond (p x) (x ∷ []) []
    go true e = ap (λ (t : List ℕ). y ∷ t) e
    go false e = e

keep-both : (p q : ℕ → Bool) (n : ℕ) → keep q (keep p (up_to (n + 1))) ≡ keep q (keep p (up_to n)) ++ cond (p n && q n) (n ∷ []) []
keep-both p q n = ap (λ (l : List ℕ). keep q (keep p l)) (ap up_to (add-one n) ∙ tabulate-snoc n (λ i. i)) ∙ ap (keep q) (keep-more p (up_to n) n) ∙ go (p n)
  where
    go : (b : Bool) → keep q (keep p (up_to n) ++ cond b (n ∷ []) []) ≡ keep q (keep p (up_to n)) ++ cond (b && q n) (n ∷ []) []
    go true = keep-more q (keep p (up_to n)) n
    go false = ap (keep q) (append-nil (keep p (up_to n))) ∙ sym (append-nil (keep q (keep p (up_to n))))

module _ (P m : ℕ) (r : Seen) where
  -- the possible events below n that agree
  abbrev below : ℕ → List ℕ
  below n = keep (agrees P r) (keep (λ e. eqb (bit e m) 1) (up_to n))

  -- they are the first `count` of the slots
  pub record Chosen (n : ℕ) (events : List ℕ) (count : ℕ) : Type 0 where
    pub room : count ≤ n
    pub size : length events ≡ 16
    pub first : take count events ≡ below n

  pub chosen_none : {events : List ℕ} → length events ≡ 16 → Chosen 0 events 0
  chosen_none l = record { room = omega arith; size = l; first = refl }

  -- a turn: the event is stored, and counted if it fits
  pub chosen_more : {n : ℕ} {events : List ℕ} {count : ℕ} → Chosen n events count → n < 16 → (d : ℕ) → d ≡ bool_byte (eqb (bit n m) 1 && agrees P r n)
      → Chosen (n + 1) (set events count n) (count + d)
  chosen_more {n} {events} {count} h l d q = rw q (go (eqb (bit n m) 1 && agrees P r n) (keep-both (λ i. eqb (bit i m) 1) (agrees P r) n))
    where
      go : (t : Bool) → below (n + 1) ≡ below n ++ cond t (n ∷ []) [] → Chosen (n + 1) (set events count n) (count + bool_byte t)
      go true f = record {
        room = omega (arith, h.room);
        size = length-set events count n ∙ h.size;
        first = rw (add-one count) (take-suc-set events count n (omega (arith, h.room, h.size))) ∙ ap (λ (t : List ℕ). t ++ (n ∷ [])) h.first ∙ sym f;
      }
      go false f = record {
        room = omega (arith, h.room);
        size = length-set events count n ∙ h.size;
        first = rw (add-zero count) (take-set-le count events count n (omega arith)) ∙ h.first ∙ sym (f ∙ append-nil (below n));
      }

-- the end, with the recorded event as the code got it
pub chosen-all : (P m k v n : ℕ) (r : Seen) {events : List ℕ} {count : ℕ} → Chosen P m (record { known = k; values = v }) n events count → k ≡ r.known → v ≡ r.values → n ≡ 2 ^ P
    → take count events ≡ choices (masked (2 ^ P) m) P r
chosen-all P m k v n r h a b e =
    h.first ∙ ap (λ (i : ℕ). below P m (record { known = k; values = v }) i) e
    ∙ ap₂ (λ (x y : ℕ). below P m (record { known = x; values = y }) (2 ^ P)) a b
