-- Going round a row: the next number after the last-heard one, found by two lowest numbers.
--     next-is, next-at     it is the first that the order of a turn meets
use mathlib.Core.Path.{◌≡◌, refl, sym, ap, ◌∙◌}
use mathlib.Core.Logic.{inl, inr}
use mathlib.Core.Bool.{Bool, true, false, cond, ◌&&◌}
use Prim.Native.Nat.{ℕ, ◌+◌, ◌-◌, ◌≤◌, ◌<◌}
use native.Mathlib.Omega.{arith}
use native.Mathlib.Decide.{dec_lt}
use borrow.Author.Tests.{lt-ltb, le-ltb}
use lib.Dec.{ltb}
use Rattle.sequences.specs.Tabulate.{least_below}
use Rattle.sequences.proofs.Loops.{least-is}
use Rattle.sequences.proofs.Pigeonhole.{Least, least-below}
use Rattle.meaning.specs.Desks.{last_of, after}
use Rattle.rounds.proofs.Rounds.{last-in, after-in, after-apart}
use Rattle.std.proofs.Common.{Some, None}
use Rattle.std.specs.Option.{option_or}
use Rattle.desk_tasks.proofs.Passes.{at}

module _ (n l : ℕ) (w : ℕ → Bool) (some : 1 ≤ n) where
  abbrev later : ℕ → Bool
  later i = w i && ltb l i

  abbrev turned : ℕ → Bool
  turned k = w (after n l k)

  -- ---- the k-th number after the last-heard one: above it, or from 0 on

  inside : last_of n l < n
  inside = last-in n some l

  -- a number of the row above it is above the one given
  above : (i : ℕ) → i < n → last_of n l < i → l < i
  above i b = go (dec_lt l n)
    where
      go : Dec (l < n) → last_of n l < i → l < i
      go (yes p) h = let q : l < i = (rw (lt-ltb l n p) at h) in q
      go (no q) h = let r : n - 1 < i = (rw (le-ltb l n (omega arith)) at h) in absurd (omega arith)

  above-back : (i : ℕ) → i < n → l < i → last_of n l < i
  above-back i b h = rw (lt-ltb l n (omega arith)) h

  upward : (k : ℕ) → last_of n l + 1 + k < n → after n l k ≡ last_of n l + 1 + k
  upward k h = after-apart n some l (last_of n l + 1 + k) k h (record { short = omega arith; way = inl refl })

  around : (k : ℕ) → k < n → n ≤ last_of n l + 1 + k → after n l k ≡ last_of n l + 1 + k - n
  around k b h = after-apart n some l (last_of n l + 1 + k - n) k (omega (arith, inside)) (record { short = b; way = inr (omega arith) })

  -- ---- tests

  both : (i : ℕ) → w i ≡ true → l < i → later i ≡ true
  both i e h = rw (e, lt-ltb l i h)

  waits_if : (i : ℕ) → later i ≡ true → w i ≡ true
  waits_if i = go (w i) (ltb l i)
    where
      go : (a b : Bool) → (a && b) ≡ true → a ≡ true
      go true b e = refl
      go false b e = e

  over-if : (i : ℕ) → later i ≡ true → l < i
  over-if i e = go (dec_lt l i)
    where
      none : (a : Bool) → (a && false) ≡ false
      none true = refl
      none false = refl

      go : Dec (l < i) → l < i
      go (yes p) = p
      go (no q) =
          let t : (w i && false) ≡ true = (rw (le-ltb l i (omega arith)) at e) in
          let z : ◌≡◌ {A = ℕ} 0 1 = ap (λ (b : Bool). cond b 1 0) (sym (none (w i)) ∙ t) in
          absurd (omega arith)

  quiet : (i : ℕ) → later i ≡ false → l < i → w i ≡ false
  quiet i e h = go (w i) (rw (lt-ltb l i h) at e)
    where
      go : (a : Bool) → (a && true) ≡ false → a ≡ false
      go true q = q
      go false q = refl

  -- ---- the three cases

  abbrev F : ℕ
  F = least_below n later

  abbrev G : ℕ
  G = least_below n w

  abbrev K : ℕ
  K = least_below n turned

  abbrev found : ℕ
  found = cond (ltb K n) (after n l K) n

  first : Least n later F
  first = least-below n later

  lowest : Least n w G
  lowest = least-below n w

  -- the k-th number is j, which waits, and none before it does
  met : (j k : ℕ) → k < n → after n l k ≡ j → w j ≡ true → ((i : ℕ) → i < k → turned i ≡ false) → found ≡ j
  met j k b e h q =
      let is : K ≡ k = least-is n turned k (omega arith) q (λ _. ap w e ∙ h) in
      rw (is, lt-ltb k n b) e

  -- one after the last-heard number waits
  after-it : F < n → found ≡ F
  after-it b =
      let over : last_of n l < F = above-back F b (over-if F (first.here b)) in
      let to : last_of n l + 1 + (F - last_of n l - 1) ≡ F = omega arith in
      met F (F - last_of n l - 1) (omega arith) (upward (F - last_of n l - 1) (omega arith) ∙ to) (waits_if F (first.here b)) (λ i c.
      let below : last_of n l + 1 + i < F = omega arith in
      ap w (upward i (omega arith)) ∙ quiet (last_of n l + 1 + i) (first.before (last_of n l + 1 + i) below) (above (last_of n l + 1 + i) (omega arith) (omega arith)))

  -- none after it waits: no number above it does
  none_above : n ≤ F → (i : ℕ) → i < n → last_of n l < i → w i ≡ false
  none_above b i c h = quiet i (first.before i (omega arith)) (above i c h)

  -- then the lowest that waits, which is not above it
  from-0 : n ≤ F → G < n → found ≡ G
  from-0 b c = go (dec_lt (last_of n l) G)
    where
      go : Dec (last_of n l < G) → found ≡ G
      go (yes p) =
          let z : ◌≡◌ {A = ℕ} 0 1 = ap (λ (x : Bool). cond x 1 0) (sym (none_above b G c p) ∙ lowest.here c) in
          absurd (omega arith)
      go (no q) =
          let k : G + n - last_of n l - 1 < n = omega (arith, inside) in
          let to : last_of n l + 1 + (G + n - last_of n l - 1) - n ≡ G = omega (arith, inside) in
          met G (G + n - last_of n l - 1) k (around (G + n - last_of n l - 1) k (omega (arith, inside)) ∙ to) (lowest.here c) before
        where
          before : (i : ℕ) → i < G + n - last_of n l - 1 → turned i ≡ false
          before i h = at (dec_lt (last_of n l + 1 + i) n)
            where
              at : Dec (last_of n l + 1 + i < n) → turned i ≡ false
              at (yes p) = ap w (upward i p) ∙ none_above b (last_of n l + 1 + i) p (omega arith)
              at (no r) = ap w (around i (omega (arith, inside)) (omega arith)) ∙ lowest.before (last_of n l + 1 + i - n) (omega (arith, inside))

  -- none waits at all
  nobody : n ≤ G → found ≡ n
  nobody b =
      let is : K ≡ n = least-is n turned n (omega arith) (λ i h. lowest.before (after n l i) (omega (arith, after-in n some l i))) (λ h. absurd (omega arith)) in
      rw (is, le-ltb n n (omega arith))

  pub next-is : cond (ltb F n) F G ≡ found
  next-is = go (dec_lt F n) (dec_lt G n)
    where
      go : Dec (F < n) → Dec (G < n) → cond (ltb F n) F G ≡ found
      go (yes p) g = rw (lt-ltb F n p) (sym (after-it p))
      go (no q) (yes p) = rw (le-ltb F n (omega arith)) (sym (from-0 (omega arith) p))
      go (no q) (no r) =
          let end : G ≡ n = omega (arith, lowest.bound) in
          rw (le-ltb F n (omega arith)) (end ∙ sym (nobody (omega arith)))

  -- the same where a number that is none of the row is none at all
  either : option_or (at n F) (at n G) ≡ at n (cond (ltb F n) F G)
  either = go (ltb F n) refl
    where
      go : (b : Bool) → ltb F n ≡ b → option_or (at n F) (at n G) ≡ at n (cond (ltb F n) F G)
      go true e = rw e (rw e)
      go false e = rw e

  found_at : at n found ≡ cond (ltb K n) (Some (after n l K)) None
  found_at = go (dec_lt K n)
    where
      go : Dec (K < n) → at n found ≡ cond (ltb K n) (Some (after n l K)) None
      go (yes p) = rw (lt-ltb K n p, lt-ltb (after n l K) n (after-in n some l K))
      go (no q) = rw (le-ltb K n (omega arith), le-ltb n n (omega arith))

  pub next-at : option_or (at n F) (at n G) ≡ cond (ltb K n) (Some (after n l K)) None
  next-at = either ∙ ap (at n) next-is ∙ found_at
