-- Masks of events.
--     marked_more                  a loop that makes a mask, after a turn
--     mask-in, mask_full           the mask of a table's events; where every event can happen
--     mask-possible                which events it has
--     no-event, some-event         it is 0 exactly if no event is left
use mathlib.Core.Path.{◌≡◌, sym, ap, ◌∙◌, subst}
use mathlib.Core.List.{List}
use mathlib.Core.Bool.{Bool, true, false, cond, not}
use Prim.Native.Nat.{ℕ, ◌+◌, ◌-◌, ◌^◌, ◌<◌}
use native.Mathlib.Nat.{pow-suc, zero-div}
use native.Mathlib.Numerals.{add-one}
use native.Mathlib.Decide.{dec_lt}
use native.Mathlib.Omega.{arith}
use borrow.Author.Tests.{lt-ltb, le-ltb, ltb-true, eq-eqb, ne_eqb}
use lib.Dec.{eqb, ltb}
use lib.Pow.{ones_lt}
use Rattle.sequences.specs.Tabulate.{all_below}
use Rattle.sequences.proofs.Loops.{all-at, all-not}
use Rattle.sequences.proofs.Pointwise.{all-is, is_true}
use Rattle.meaning.specs.Bytes.{bit}
use Rattle.meaning.specs.Traces.{full_mask, Event, is_event}
use Rattle.meaning.specs.TableFiles.{no_successor, successor, alphabet_in, event_left}
use Rattle.events.proofs.Counting.{off-above}
use Rattle.events.proofs.Masks.{in-mask, full-bit}
use Rattle.table_layout.specs.Masks.{Marked, MaskIn}
use Rattle.table_layout.proofs.Bits.{bit-here, bit_below}
use Rattle.table_layout.proofs.Form.{test-event}

-- ---- a mask, bit by bit

-- a turn: bit n is added where the test holds
pub marked_more : {n m r : ℕ} {f : ℕ → Bool} (b : Bool) → Marked n f m → b ≡ f n → r ≡ m + cond b (2 ^ n) 0 → Marked (n + 1) f r
marked_more {n} {m} {r} {f} b h q e = record { small = go b e; bits = λ i l. at b q e i (dec_lt i n) l }
  where
    go : (x : Bool) → r ≡ m + cond x (2 ^ n) 0 → r < 2 ^ (n + 1)
    go true p = rw add-one (omega (arith, pow-suc 2 n, h.small))
    go false p = rw add-one (omega (arith, pow-suc 2 n, h.small))

    at : (x : Bool) → x ≡ f n → r ≡ m + cond x (2 ^ n) 0 → (i : ℕ) → Dec (i < n) → i < n + 1 → eqb (bit i r) 1 ≡ f i
    at true u p i (yes g) l = rw (p, bit_below n m i g) (h.bits i g)
    at true u p i (no g) l = let z : i ≡ n = omega arith in rw (p, z, bit-here n m h.small) u
    at false u p i (yes g) l = let z : r ≡ m = omega arith in rw z (h.bits i g)
    at false u p i (no g) l = let z : i ≡ n = omega arith in let y : r ≡ m = omega arith in rw (y, z, off-above n m n h.small (omega arith)) u

-- where the test holds everywhere
marked-full : (n : ℕ) (f : ℕ → Bool) → ((i : ℕ) → i < n → f i ≡ true) → Marked n f (2 ^ n - 1)
marked-full n f h = record { small = ones_lt n; bits = λ i l. eq-eqb (bit i (2 ^ n - 1)) 1 (full-bit n i l) ∙ sym (h i l) }

-- the mask of a table's events
pub mask-in : {t : List ℕ} {m : ℕ} (P : ℕ) → Marked (2 ^ P) (alphabet_in t P).possible m → MaskIn t P m
mask-in {t} {m} P h = record { bits = λ e. go e (dec_lt e (2 ^ P)) }
  where
    go : (e : ℕ) → Dec (e < 2 ^ P) → eqb (bit e m) 1 ≡ is_event (alphabet_in t P) e
    go e (yes l) = rw (lt-ltb e (2 ^ P) l) (h.bits e l)
    go e (no l) = rw (le-ltb e (2 ^ P) (omega arith), off-above (2 ^ P) m e h.small (omega arith))

-- where no successor of state 0 is 65,535, every event can happen
pub mask_full : (t : List ℕ) (P : ℕ) {m : ℕ} → m ≡ full_mask P → all_below (2 ^ P) (λ e. ltb (successor t P 0 e) no_successor) ≡ true → MaskIn t P m
mask_full t P q h = mask-in P (subst (λ (m : ℕ). Marked (2 ^ P) (alphabet_in t P).possible m) (sym q) (marked-full (2 ^ P) (alphabet_in t P).possible can))
  where
    can : (e : ℕ) → e < 2 ^ P → (alphabet_in t P).possible e ≡ true
    can e l =
        let b : successor t P 0 e < no_successor = ltb-true (successor t P 0 e) no_successor (all-at (2 ^ P) (λ k. ltb (successor t P 0 k) no_successor) h e l) in
        ap not (ne_eqb (successor t P 0 e) no_successor (λ z. omega arith))

-- ---- what a mask says of its table

module _ {t : List ℕ} {P m : ℕ} (h : MaskIn t P m) where
  -- the events that it has
  pub mask-possible : (e : ℕ) → e < 2 ^ P → eqb (bit e m) 1 ≡ (alphabet_in t P).possible e
  mask-possible e l = let b : eqb (bit e m) 1 ≡ is_event (alphabet_in t P) e = h.bits e in rw (lt-ltb e (2 ^ P) l) at b

  -- whether it has any
  pub no-event : m ≡ 0 → event_left t P ≡ false
  no-event q = ap not (all-is (2 ^ P) (λ e. not ((alphabet_in t P).possible e)) (λ e l. ap not (off e l)))
    where
      off : (e : ℕ) → e < 2 ^ P → (alphabet_in t P).possible e ≡ false
      off e l = sym (mask-possible e l) ∙ rw (q, zero-div)

  pub some-event : m < 65536 → (m ≡ 0 → ⊥) → event_left t P ≡ true
  some-event l n =
      let e = in-mask 16 m l n in
      let can : Event (alphabet_in t P) e.event = test-event (alphabet_in t P) e.event (sym (h.bits e.event) ∙ e.on) in
      ap not (all-not (2 ^ P) (λ k. not ((alphabet_in t P).possible k)) e.event can.0 (ap not (is_true ((alphabet_in t P).possible e.event) can.1)))
