-- A step on whole words: the two profiles of a label are n apart, so the profiles come from the labels' bits, once or moved by n.
use mathlib.Core.Path.{◌≡◌, refl, sym, ap, ap₂, ◌∙◌, subst}
use mathlib.Core.Bool.{Bool, true, false, ◌&&◌}
use mathlib.Core.List.{List, [], ◌∷◌}
use Prim.Native.Nat.{ℕ, zero, suc, ◌+◌, ◌*◌, ◌/◌, ◌%◌, ◌^◌, ◌≤◌, ◌<◌}
use native.Mathlib.Nat.{pow-suc, add-mod_right, mod-eq_of_lt, mul_assoc, add_comm, lt_of_lt_of_le}
use native.Mathlib.Decide.{dec_lt}
use native.Mathlib.Omega.{arith}
use lib.ListN.{get_or}
use lib.Bits.{bit_and}
use lib.Pow.{pow_mono, shl_exact}
use Rattle.ltl.specs.Sets.{on, set_below}
use Rattle.ltl.specs.Residuals.{preimage}
use Rattle.ltl.specs.Keys.{look, step_key}
use Rattle.ltl.proofs.Sets.{on_out, on-set, same-members, set-lt, set_same, on_and}
use Rattle.profile_sets.specs.Arrays.{set_in, tables_by, Steppable, key_of, hits_from, Cut}
use Rattle.profile_sets.proofs.Tables.{on-set-in, labels-few, profile-small}
use Rattle.profile_sets.specs.Words.{key-member, each-of-four}
use Rattle.profile_sets.proofs.Words.{set-lowest, Begun, begun_all}

-- ---- the numbers in both of two sets

key-lt : (words : List ℕ) → key_of words < 2 ^ 256
unfolding key_of
key-lt words = set-lt 256 (λ q. on (get_or words (q / 64) 0) (q % 64))

module _ (a b : ℕ) (full : List ℕ) where
  abbrev cut_words : List ℕ
  cut_words = bit_and (get_or full 0 0) a ∷ bit_and (get_or full 1 0) b ∷ bit_and (get_or full 2 0) a ∷ bit_and (get_or full 3 0) b ∷ []

  pub cut-is : Cut a b (key_of full) (key_of cut_words)
  cut-is = record { low = key-lt cut_words; at = at }
    where
      each : (j : ℕ) → j < 4 → get_or cut_words j 0 ≡ bit_and (get_or full j 0) (get_or (a ∷ b ∷ a ∷ b ∷ []) j 0)
      each = each-of-four (λ j. get_or cut_words j 0 ≡ bit_and (get_or full j 0) (get_or (a ∷ b ∷ a ∷ b ∷ []) j 0)) refl refl refl refl

      at : (q : ℕ) → q < 256 → on (key_of cut_words) q ≡ (on (key_of full) q && on (key_of (a ∷ b ∷ a ∷ b ∷ [])) q)
      at q m =
          key-member cut_words q m ∙ ap (λ (x : ℕ). on x (q % 64)) (each (q / 64) (omega arith)) ∙ on_and (get_or full (q / 64) 0) (get_or (a ∷ b ∷ a ∷ b ∷ []) (q / 64) 0) (q % 64)
          ∙ sym (ap₂ ◌&&◌ (key-member full q m) (key-member (a ∷ b ∷ a ∷ b ∷ []) q m))

-- ---- the profiles of the labels that pass

-- the words a, b, a, b have those of the n + n profiles whose label passes
pub record Halved (n : ℕ) (f : ℕ → Bool) (a b : ℕ) : Type 0 where
  pub at : (p : ℕ) → p < n + n → on (key_of (a ∷ b ∷ a ∷ b ∷ [])) p ≡ f (p % n)

module _ {w m n : ℕ} {profiles : List (List ℕ)} {W : ℕ} (h : Steppable w m n profiles W) (held : List Bool) (e : ℕ) where
  abbrev leading : ℕ → Bool
  leading = preimage n (look profiles) W (set_in held) e

  pub step_cut : e < w → {a b : ℕ} {next : ℕ} → Halved n (λ y. get_or held (look profiles e y) false) a b → Cut a b W next
      → next ≡ step_key (tables_by n profiles W) (set_in held) e
  step_cut d {a} {b} {next} k c = same-members next (set_below (n + n) leading) (λ p. go p (dec_lt p (n + n)) (dec_lt p 256))
    where
      both : (x y : Bool) → (x && y) ≡ elim x [ true ↦ y | false ↦ false ]
      both true y = refl
      both false y = refl

      in-full : (p : ℕ) → p < 256 → on next p ≡ elim (on W p) [ true ↦ on (key_of (a ∷ b ∷ a ∷ b ∷ [])) p | false ↦ false ]
      in-full p l = c.at p l ∙ both (on W p) (on (key_of (a ∷ b ∷ a ∷ b ∷ [])) p)

      out : (p : ℕ) → n + n ≤ p → on (set_below (n + n) leading) p ≡ false
      out p l = on_out (set_below (n + n) leading) (n + n) p (set-lt (n + n) leading) l

      go : (p : ℕ) → Dec (p < n + n) → Dec (p < 256) → on next p ≡ on (set_below (n + n) leading) p
      go p (yes l) m =
          let q : ℕ = look profiles e (p % n) in
          let s : q < n + n = profile-small h e p d in
          in-full p (omega (arith, labels-few h))
          ∙ ap (λ (x : Bool). elim (on W p) [ true ↦ x | false ↦ false ]) (k.at p l ∙ sym (on-set-in held q (omega (arith, labels-few h))))
          ∙ sym (on-set (n + n) leading p l)
      go p (no l) (yes m) =
          in-full p m ∙ ap (λ (x : Bool). elim x [ true ↦ on (key_of (a ∷ b ∷ a ∷ b ∷ [])) p | false ↦ false ]) (h.past p (omega arith)) ∙ sym (out p (omega arith))
      go p (no l) (no m) = on_out next 256 p c.low (omega arith) ∙ sym (out p (omega arith))

-- ---- the three ways

-- the numbers below n that pass, then those that pass from n on
set-joined : (n m : ℕ) (g : ℕ → Bool) → set_below (n + m) g ≡ set_below n g + set_below m (λ i. g (n + i)) * 2 ^ n
set-joined zero m g = ap (λ (k : ℕ). set_below k g) (let e : 0 + m ≡ m = omega arith in e) ∙ set_same m g (λ i. g (0 + i)) (λ i _. ap g (omega arith)) ∙ omega arith
set-joined (suc n) m g =
    let s : ℕ = set_below m (λ i. g (suc n + i)) in
    let t : set_below m (λ i. g (suc (n + i))) ≡ s = set_same m (λ i. g (suc (n + i))) (λ i. g (suc n + i)) (λ i _. ap g (omega arith)) in
    let r : set_below (n + m) (λ i. g (suc i)) ≡ set_below n (λ i. g (suc i)) + s * 2 ^ n = set-joined n m (λ i. g (suc i)) ∙ ap (λ (x : ℕ). set_below n (λ i. g (suc i)) + x * 2 ^ n) t in
    let z : s * 2 ^ suc n ≡ s * 2 ^ n * 2 = ap (λ (x : ℕ). s * x) (pow-suc 2 n) ∙ sym (mul_assoc s (2 ^ n) 2) in
    ap (λ (k : ℕ). set_below k g) (let e : suc n + m ≡ suc (n + m) = omega arith in e) ∙ set-lowest (n + m) g ∙ omega (arith, set-lowest n g)

module _ (f : ℕ → Bool) where
  halved-words : {n : ℕ} (a b : ℕ) → ((j : ℕ) → j < 4 → (i : ℕ) → i < 64 → on (get_or (a ∷ b ∷ a ∷ b ∷ []) j 0) i ≡ f ((64 * j + i) % n)) → n ≤ 128 → Halved n f a b
  halved-words {n} a b g m = record {
    at = λ p l. let q : 64 * (p / 64) + p % 64 ≡ p = omega arith in
        key-member (a ∷ b ∷ a ∷ b ∷ []) p (omega arith) ∙ g (p / 64) (omega arith) (p % 64) (omega arith) ∙ ap (λ (x : ℕ). f (x % n)) q;
  }

  halved_both : (n low : ℕ) → n ≤ 32 → low ≡ set_below n (λ i. f (0 + i)) → low + low * 2 ^ n % 2 ^ 64 ≡ set_below (n + n) (λ p. f (p % n))
  halved_both n low l q =
      ap (λ (x : ℕ). low + x) (shl_exact n n 64 (subst (λ (x : ℕ). x < 2 ^ n) (sym q) (set-lt n (λ i. f (0 + i)))) (omega arith))
      ∙ ap₂ (λ (x y : ℕ). x + y * 2 ^ n)
      (q ∙ set_same n (λ i. f (0 + i)) (λ p. f (p % n)) (λ i m. ap f (sym (mod-eq_of_lt m ∙ omega arith))))
      (q ∙ set_same n (λ i. f (0 + i)) (λ i. f ((n + i) % n)) (λ i m. ap f (sym (ap (λ (x : ℕ). x % n) (add_comm n i) ∙ add-mod_right i n ∙ mod-eq_of_lt m ∙ omega arith))))
      ∙ sym (set-joined n n (λ p. f (p % n)))

module _ (profiles : List (List ℕ)) (held : List Bool) (e : ℕ) where
  abbrev taken : ℕ → Bool
  taken y = get_or held (look profiles e y) false

  pub hits-all : (from count : ℕ) {i word : ℕ} → Begun count (λ k. taken (from + k)) i word → i ≡ 0 → word ≡ hits_from profiles held e from count
  unfolding hits_from
  hits-all from count h q = begun_all h q

  hits_at : (from x i j : ℕ) → x ≡ hits_from profiles held e from 64 → i < 64 → from + i ≡ j → on x i ≡ taken j
  unfolding hits_from
  hits_at from x i j q l r = ap (λ (z : ℕ). on z i) q ∙ on-set 64 (λ i. taken (from + i)) i l ∙ ap taken r

  module _ (n low : ℕ) (l : n ≤ 32) (q : low ≡ hits_from profiles held e 0 n) where
    both_is : low + low * 2 ^ n % 2 ^ 64 ≡ set_below (n + n) (λ p. taken (p % n))
    unfolding hits_from
    both_is = halved_both taken n low l q

    pub both-fits : low + low * 2 ^ n % 2 ^ 64 < 2 ^ 64
    both-fits = subst (λ (x : ℕ). x < 2 ^ 64) (sym both_is) (lt_of_lt_of_le (set-lt (n + n) (λ p. taken (p % n))) (pow_mono {i = n + n} {j = 64} (omega arith)))

    pub halved-low : Halved n taken (low + low * 2 ^ n % 2 ^ 64) (low + low * 2 ^ n % 2 ^ 64)
    halved-low = record {
      at = λ p m. let b : ℕ = low + low * 2 ^ n % 2 ^ 64 in
          let j : p / 64 ≡ 0 = omega arith in
          let i : p % 64 ≡ p = omega arith in
          key-member (b ∷ b ∷ b ∷ b ∷ []) p (omega arith) ∙ ap₂ (λ (x y : ℕ). on (get_or (b ∷ b ∷ b ∷ b ∷ []) x 0) y) j i ∙ ap (λ (x : ℕ). on x p) both_is
          ∙ on-set (n + n) (λ p. taken (p % n)) p m;
    }

  pub halved-one : (n low : ℕ) → n ≡ 64 → low ≡ hits_from profiles held e 0 64 → Halved n taken low low
  halved-one n low r q = subst (λ (k : ℕ). Halved k taken low low) (sym r) (halved-words taken low low each (omega arith))
    where
      each : (j : ℕ) → j < 4 → (i : ℕ) → i < 64 → on (get_or (low ∷ low ∷ low ∷ low ∷ []) j 0) i ≡ taken ((64 * j + i) % 64)
      each = each-of-four (λ j. (i : ℕ) → i < 64 → on (get_or (low ∷ low ∷ low ∷ low ∷ []) j 0) i ≡ taken ((64 * j + i) % 64))
          (λ i l. hits_at 0 low i ((64 * 0 + i) % 64) q l (omega arith))
          (λ i l. hits_at 0 low i ((64 * 1 + i) % 64) q l (omega arith))
          (λ i l. hits_at 0 low i ((64 * 2 + i) % 64) q l (omega arith))
          (λ i l. hits_at 0 low i ((64 * 3 + i) % 64) q l (omega arith))

  pub halved-two : (n low high : ℕ) → n ≡ 128 → low ≡ hits_from profiles held e 0 64 → high ≡ hits_from profiles held e 64 64 → Halved n taken low high
  halved-two n low high r q s = subst (λ (k : ℕ). Halved k taken low high) (sym r) (halved-words taken low high each (omega arith))
    where
      each : (j : ℕ) → j < 4 → (i : ℕ) → i < 64 → on (get_or (low ∷ high ∷ low ∷ high ∷ []) j 0) i ≡ taken ((64 * j + i) % 128)
      each = each-of-four (λ j. (i : ℕ) → i < 64 → on (get_or (low ∷ high ∷ low ∷ high ∷ []) j 0) i ≡ taken ((64 * j + i) % 128))
          (λ i l. hits_at 0 low i ((64 * 0 + i) % 128) q l (omega arith))
          (λ i l. hits_at 64 high i ((64 * 1 + i) % 128) s l (omega arith))
          (λ i l. hits_at 0 low i ((64 * 2 + i) % 128) q l (omega arith))
          (λ i l. hits_at 64 high i ((64 * 3 + i) % 128) s l (omega arith))
