-- Laws of lists of events.
use mathlib.Core.Path.{◌≡◌, refl, ap}
use mathlib.Core.List.{List}
use mathlib.Core.Bool.{Bool, true, false, cond, not, ◌&&◌}
use Prim.Native.Nat.{ℕ, zero, suc, ◌+◌, ◌≤◌, ◌<◌}
use native.Mathlib.Nat.{not-suc-le-zero}
use native.Mathlib.Omega.{arith}
use native.Mathlib.Decide.{dec_lt}
use borrow.Author.Tests.{ltb-true, not-false}
use lib.Dec.{eqb}
use lib.ListN.{length, get_or}
use Rattle.sequences.specs.Tabulate.{all_below, least_below}
use Rattle.sequences.proofs.Loops.{Missed, all-at}
use Rattle.sequences.proofs.Pointwise.{all-is, least-same}
use Rattle.meaning.specs.Bytes.{bit}
use Rattle.meaning.specs.Traces.{Alphabet, is_event}
use Rattle.meaning.specs.Runs.{first_bad}
use Rattle.event_lists.specs.Bounds.{NoneAbove}
use Rattle.event_lists.specs.Masks.{in_mask, all_in, first_outside}

-- events that are not above a number
pub above-none : {es : List ℕ} {m : ℕ} → NoneAbove 0 es m
above-none = record { under = λ i l. absurd (omega (arith, l)) }

pub above_more : {n : ℕ} {es : List ℕ} {m : ℕ} (k : ℕ) → NoneAbove n es m → m ≤ k → get_or es n 0 ≤ k → NoneAbove (n + 1) es k
above_more {n} {es} k h p q = record { under = λ i l. go i (dec_lt i n) l }
  where
    go : (i : ℕ) → Dec (i < n) → i < n + 1 → get_or es i 0 ≤ k
    go i (yes a) l = omega (arith, h.under i a, p)
    go i (no a) l = let e : i ≡ n = omega (arith, a, l) in rw e q

-- below a number up to which a mask has every event, all are in it
pub above_in : {es : List ℕ} {top : ℕ} (m n : ℕ) → NoneAbove (length es) es top → all_below n (λ e. eqb (bit e m) 1) ≡ true → top < n → all_in m es ≡ true
above_in {es} m n h full l =
    all-is (length es) (in_mask m es) (λ i b. all-at n (λ e. eqb (bit e m) 1) full (get_or es i 0) (omega (arith, h.under i b)))

-- where all are in it, none is outside
pub none-outside : (m : ℕ) (es : List ℕ) → all_in m es ≡ true → Missed (length es) (λ i. not (in_mask m es i))
none-outside m es h = record { none = λ i l. ap not (all-at (length es) (in_mask m es) h i l) }

-- where no index passes a test, the least is the bound
least-none : (n : ℕ) (p : ℕ → Bool) → n ≤ least_below n p → (i : ℕ) → i < n → p i ≡ false
least-none zero p h i l = absurd (not-suc-le-zero l)
least-none (suc n) p h i l = go (p zero) refl h i l (λ m. least-none n (λ k. p (suc k)) m)
  where
    go : (b : Bool) → p zero ≡ b → suc n ≤ cond b zero (suc (least_below n (λ k. p (suc k)))) → (j : ℕ) → j < suc n
        → (n ≤ least_below n (λ k. p (suc k)) → (k : ℕ) → k < n → p (suc k) ≡ false) → p j ≡ false
    go true e g j m r = absurd (omega (arith, g))
    go false e g zero m r = e
    go false e g (suc j) m r = r (omega (arith, g)) j (omega (arith, m))

module _ (Σ : Alphabet) (es : List ℕ) where
  -- a mask that has exactly the events that can happen finds the first that cannot
  pub outside-bad : (m : ℕ) → ((e : ℕ) → eqb (bit e m) 1 ≡ is_event Σ e) → first_outside m es ≡ first_bad Σ es
  outside-bad m h = least-same (length es) (λ i. not (in_mask m es i)) (λ i. not (is_event Σ (get_or es i 0))) (λ i l. ap not (h (get_or es i 0)))

  -- a list of events that can all happen
  module _ (h : length es ≤ first_bad Σ es) where
    pub all-events : (i : ℕ) → i < length es → is_event Σ (get_or es i 0) ≡ true
    all-events i l = not-false (is_event Σ (get_or es i 0)) (least-none (length es) (λ k. not (is_event Σ (get_or es k 0))) h i l)

    pub none_above : Σ.width ≤ 16 → NoneAbove (length es) es 15
    none_above f = record { under = λ i l. let b = ltb-true (get_or es i 0) Σ.width (first _ _ (all-events i l)) in omega (arith, b) }
      where
        first : (a b : Bool) → (a && b) ≡ true → a ≡ true
        first true b e = refl
        first false b e = e
