-- Sets of profiles in four words: a word made from its highest bit down, which profiles are in a key, and that equal words are equal keys.
use mathlib.Core.Path.{◌≡◌, refl, sym, ap, ◌∙◌, subst}
use mathlib.Core.Bool.{Bool, true, false, cond}
use mathlib.Core.List.{List, [], ◌∷◌}
use Prim.Native.Nat.{ℕ, zero, suc, ◌+◌, ◌-◌, ◌*◌, ◌/◌, ◌%◌, ◌^◌, ◌≤◌, ◌<◌}
use native.Mathlib.Nat.{pow-suc}
use native.Mathlib.Decide.{dec_lt}
use native.Mathlib.Omega.{arith}
use lib.ListN.{get_or, replicate, get_or-replicate}
use lib.Pow.{pow_mono}
use lib.Dec.{eqb}
use Rattle.std.specs.Str.{bytes_eq}
use Rattle.std.proofs.lemmas.Slice.Eq.{bytes_eq-Decides}
use Rattle.std.proofs.lemmas.Bool.Decides.{Decides-like, Decides-eqb, same_from_decides}
use Rattle.ltl.specs.Sets.{on, put, set_below}
use Rattle.ltl.proofs.Sets.{on-zero, on_out, on-set, same-members, set-lt, set_same}
use Rattle.profile_sets.specs.Words.{each-of-four, words-back}
use Rattle.profile_sets.specs.Arrays.{set_in, word_in, key_of, WordsFit, words_of}

-- ---- sets by a test

-- the lowest number first
put_lowest : (k : ℕ) (b : Bool) (d A : ℕ) → put (suc k) b (d + 2 * A) ≡ d + 2 * put k b A
put_lowest k true d A = omega (arith, pow-suc 2 k)
put_lowest k false d A = refl

first-digit : (b : Bool) → put 0 b 0 ≡ cond b 1 0 + 2 * 0
first-digit true = refl
first-digit false = refl

pub set-lowest : (k : ℕ) (f : ℕ → Bool) → set_below (suc k) f ≡ cond (f 0) 1 0 + 2 * set_below k (λ i. f (suc i))
set-lowest zero f = first-digit (f 0)
set-lowest (suc k) f = ap (put (suc k) (f (suc k))) (set-lowest k f) ∙ put_lowest k (f (suc k)) (cond (f 0) 1 0) (set_below k (λ i. f (suc i)))

-- numbers that do not pass add nothing
pub set_past : (n m : ℕ) (f : ℕ → Bool) → n ≤ m → ((i : ℕ) → n ≤ i → i < m → f i ≡ false) → set_below m f ≡ set_below n f
set_past n m f l h = same-members (set_below m f) (set_below n f) (λ i. go i (dec_lt i n) (dec_lt i m))
  where
    go : (i : ℕ) → Dec (i < n) → Dec (i < m) → on (set_below m f) i ≡ on (set_below n f) i
    go i (yes p) q = on-set m f i (omega arith) ∙ sym (on-set n f i p)
    go i (no p) (yes q) = on-set m f i q ∙ h i (omega arith) q ∙ sym (on_out (set_below n f) n i (set-lt n f) (omega arith))
    go i (no p) (no q) = on_out (set_below m f) m i (set-lt m f) (omega arith) ∙ sym (on_out (set_below n f) n i (set-lt n f) (omega arith))

-- ---- a word, made from its highest bit down

-- of `top` bits those from i on
pub record Begun (top : ℕ) (f : ℕ → Bool) (i word : ℕ) : Type 0 where
  pub is : word ≡ set_below (top - i) (λ k. f (i + k))

pub begun_more : {top : ℕ} {f : ℕ → Bool} {i word : ℕ} (d : ℕ) → Begun top f i word → 0 < i → i ≤ top → d ≡ cond (f (i - 1)) 1 0 → Begun top f (i - 1) (word * 2 + d)
begun_more {top} {f} {i} {word} d h l m e =
    let j : ℕ = i - 1 in
    let n : ℕ = top - i in
    let s : ℕ = set_below n (λ k. f (j + suc k)) in
    let p : word ≡ s = h.is ∙ set_same n (λ k. f (i + k)) (λ k. f (j + suc k)) (λ k _. ap f (omega arith)) in
    let q : d ≡ cond (f (j + 0)) 1 0 = e ∙ ap (λ (k : ℕ). cond (f k) 1 0) (omega arith) in
    let r : suc n ≡ top - j = omega arith in
    record { is = (omega arith) ∙ sym (set-lowest n (λ k. f (j + k))) ∙ ap (λ (a : ℕ). set_below a (λ k. f (j + k))) r }

-- two at once, the higher one first
pub begun-two : {top : ℕ} {f : ℕ → Bool} {i word : ℕ} (a b j : ℕ) → Begun top f i word → j + 2 ≡ i → i ≤ top → a ≡ cond (f (j + 1)) 1 0 → b ≡ cond (f j) 1 0 → Begun top f j (word * 4 + (a * 2 + b))
begun-two {top} {f} {i} {word} a b j h l m p q =
    let one = begun_more a h (omega arith) m (p ∙ ap (λ (k : ℕ). cond (f k) 1 0) (omega arith)) in
    let two = begun_more b one (omega arith) (omega arith) (q ∙ ap (λ (k : ℕ). cond (f k) 1 0) (omega arith)) in
    subst (λ (w : ℕ). Begun top f j w) (let r : (word * 2 + a) * 2 + b ≡ word * 4 + (a * 2 + b) = omega arith in r)
    (subst (λ (k : ℕ). Begun top f k ((word * 2 + a) * 2 + b)) (let r : i - 1 - 1 ≡ j = omega arith in r) two)

-- where there are k bits to come
pub begun-small : (k : ℕ) {top : ℕ} {f : ℕ → Bool} {i word : ℕ} → Begun top f i word → k ≤ i → top ≤ 64 → word < 2 ^ (64 - k)
begun-small k {top} {f} {i} h l t = let m : 2 ^ (top - i) ≤ 2 ^ (64 - k) = pow_mono {i = top - i} {j = 64 - k} (omega arith) in rw h.is (omega (arith, m, set-lt (top - i) (λ k. f (i + k))))

pub begun_all : {top : ℕ} {f : ℕ → Bool} {i word : ℕ} → Begun top f i word → i ≡ 0 → word ≡ set_below top f
begun_all {top} {f} {i} h e =
    h.is ∙ ap (λ (j : ℕ). set_below (top - j) (λ k. f (j + k))) e ∙ ap (λ (n : ℕ). set_below n (λ k. f (0 + k))) (let r : top - 0 ≡ top = omega arith in r) ∙ set_same top (λ k. f (0 + k)) f (λ k _. ap f (omega arith))

pub begun-word : (bits : List Bool) (j : ℕ) {i word : ℕ} → Begun 64 (λ k. get_or bits (64 * j + k) false) i word → i ≡ 0 → word ≡ word_in bits j
unfolding word_in
begun-word bits j h e = begun_all h e

-- ---- a key and its words

module _ (bits : List Bool) where
  abbrev packed : List ℕ
  packed = word_in bits 0 ∷ word_in bits 1 ∷ word_in bits 2 ∷ word_in bits 3 ∷ []

  packed-at : (j : ℕ) → j < 4 → get_or packed j 0 ≡ word_in bits j
  packed-at = each-of-four (λ j. get_or packed j 0 ≡ word_in bits j) refl refl refl refl

  pub packed-key : key_of packed ≡ set_in bits
  unfolding key_of word_in set_in
  packed-key =
      set_same 256 (λ q. on (get_or packed (q / 64) 0) (q % 64)) (λ q. get_or bits q false)
      (λ q l. let r : 64 * (q / 64) + q % 64 ≡ q = omega arith in
      ap (λ (w : ℕ). on w (q % 64)) (packed-at (q / 64) (omega arith)) ∙ on-set 64 (λ i. get_or bits (64 * (q / 64) + i) false) (q % 64) (omega arith) ∙ ap (λ (n : ℕ). get_or bits n false) r)

-- the empty set
pub key-empty : key_of (replicate 4 0) ≡ 0
unfolding key_of
key-empty = set_past 0 256 (λ q. on (get_or (replicate 4 0) (q / 64) 0) (q % 64)) (omega arith) (λ q _ l. ap (λ (w : ℕ). on w (q % 64)) (get_or-replicate 4 (q / 64) 0 0 (omega arith)) ∙ on-zero (q % 64))

-- two sets are the same exactly if their words are
pub same-words : (a b : List ℕ) → WordsFit a → WordsFit b → {r : Bool} → r ≡ bytes_eq a b → r ≡ eqb (key_of a) (key_of b)
same-words a b h k {r} e = e ∙ same_from_decides (bytes_eq a b) (eqb (key_of a) (key_of b)) (bytes_eq-Decides a b)
    (Decides-like (eqb (key_of a) (key_of b)) (λ q. sym (words-back a h) ∙ ap words_of q ∙ words-back b k) (ap key_of) (Decides-eqb (key_of a) (key_of b)))
