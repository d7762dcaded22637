-- A set of numbers below 256 and its four words: which numbers are in it by the words, and that the words come back from the set.
use Rattle.std.specs.Prelude.{◌≡◌, refl, List, [], ◌∷◌, ℕ, ◌+◌, ◌*◌, ◌/◌, ◌%◌, ◌<◌, length, get_or}
use Rattle.std.proofs.Common.{zero, suc, sym, ap₂, ◌∙◌, arith}
use Rattle.ltl.specs.Sets.{on, set_below}
use Rattle.ltl.proofs.Sets.{on-set, same_set, set-lt}
use Rattle.profile_sets.specs.Arrays.{key_of, WordsFit, word_at, words_of}

pub key-member : (words : List ℕ) (q : ℕ) → q < 256 → on (key_of words) q ≡ on (get_or words (q / 64) 0) (q % 64)
unfolding key_of
key-member words q l = on-set 256 (λ q. on (get_or words (q / 64) 0) (q % 64)) q l

pub key-bit : (words : List ℕ) (j i : ℕ) → j < 4 → i < 64 → on (key_of words) (64 * j + i) ≡ on (get_or words j 0) i
key-bit words j i l m =
    let p : (64 * j + i) / 64 ≡ j = omega arith in
    let q : (64 * j + i) % 64 ≡ i = omega arith in
    key-member words (64 * j + i) (omega arith) ∙ (rw (p, q))

-- four words, one by one
pub each-of-four : (P : ℕ → Type 0) → P 0 → P 1 → P 2 → P 3 → (j : ℕ) → j < 4 → P j
each-of-four P a b c d zero l = a
each-of-four P a b c d (suc zero) l = b
each-of-four P a b c d (suc (suc zero)) l = c
each-of-four P a b c d (suc (suc (suc zero))) l = d
each-of-four P a b c d (suc (suc (suc (suc j)))) l = absurd (omega arith)

-- the words of a set give it back
word-back : (words : List ℕ) → WordsFit words → (j : ℕ) → j < 4 → word_at (key_of words) j ≡ get_or words j 0
unfolding word_at
word-back words h j l =
    same_set 64 (set_below 64 (λ i. on (key_of words) (64 * j + i))) (get_or words j 0) (set-lt 64 (λ i. on (key_of words) (64 * j + i))) (h.small j)
    (λ i m. on-set 64 (λ i. on (key_of words) (64 * j + i)) i m ∙ key-bit words j i l m)

same-lists : (xs ys : List ℕ) → length xs ≡ length ys → ((j : ℕ) → j < length ys → get_or xs j 0 ≡ get_or ys j 0) → xs ≡ ys
same-lists [] [] l e = refl
same-lists [] (y ∷ ys) l e = absurd (omega arith)
same-lists (x ∷ xs) [] l e = absurd (omega arith)
same-lists (x ∷ xs) (y ∷ ys) l e = ap₂ (λ (z : ℕ) (zs : List ℕ). z ∷ zs) (e 0 (omega arith)) (same-lists xs ys (omega arith) (λ j m. e (suc j) (omega arith)))

pub words-back : (words : List ℕ) → WordsFit words → words_of (key_of words) ≡ words
words-back words h = same-lists (words_of (key_of words)) words (sym h.long) (λ j l. each j (omega (arith, h.long)))
  where
    each : (j : ℕ) → j < 4 → get_or (words_of (key_of words)) j 0 ≡ get_or words j 0
    each j l = each-of-four (λ i. get_or (words_of (key_of words)) i 0 ≡ word_at (key_of words) i) refl refl refl refl j l ∙ word-back words h j l
