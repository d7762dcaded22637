-- How sets of profiles and the tables of the residual system stand in arrays.
use Rattle.std.specs.Prelude.{◌≡◌, Bool, false, ◌&&◌, List, [], ◌∷◌, ℕ, ◌+◌, ◌*◌, ◌/◌, ◌%◌, ◌^◌, ◌≤◌, ◌<◌, length, get_or}
use Rattle.ltl.specs.Sets.{on, set_below}
use Rattle.ltl.specs.Keys.{Tables, look}
use Rattle.ltl.specs.Arrays.{TablesIn}

-- the set of the profiles at which the array is true
unfoldable pub set_in : List Bool → ℕ
set_in bits = set_below 256 (λ p. get_or bits p false)

-- 64 of them as a set of numbers below 64: the word number j
unfoldable pub word_in : List Bool → ℕ → ℕ
word_in bits j = set_below 64 (λ i. get_or bits (64 * j + i) false)

-- of the profiles below p, the array is true at those that pass the test f
pub record Marked (p : ℕ) (f : ℕ → Bool) (bits : List Bool) : Type 0 where
  pub long : length bits ≡ 256
  pub at : (q : ℕ) → q < p → get_or bits q false ≡ f q

-- the first n bits of a word are put at a profile and after it, and what was before is kept
pub record SpreadFrom (n word from : ℕ) (old new : List Bool) : Type 0 where
  pub long : length new ≡ 256
  pub before : (q : ℕ) → q < from → get_or new q false ≡ get_or old q false
  pub bits : (i : ℕ) → i < n → get_or new (from + i) false ≡ on word i

-- the tables with n labels, these profiles and the set W of all profiles
abbrev pub tables_by : ℕ → List (List ℕ) → ℕ → Tables
tables_by n profiles W = record { labels = n; profiles = profiles; whole = W }

-- those that the arrays hold
abbrev pub tables_in : ℕ → List (List ℕ) → List Bool → Tables
tables_in n profiles whole = tables_by n profiles (set_in whole)

-- the arrays are in order for n labels and the events below `width`
abbrev pub Tabled : ℕ → ℕ → List (List ℕ) → List Bool → Type 0
Tabled width n profiles whole = TablesIn width n (tables_in n profiles whole) profiles whole

-- for events below `width`, at most 16: there are n labels, 2 to the number of temporal nodes, which are at most seven, and all profiles are below n + n:
-- those by an event and a label, and those in the set W
pub record Steppable (width nodes n : ℕ) (profiles : List (List ℕ)) (W : ℕ) : Type 0 where
  pub narrow : width ≤ 16
  pub few : nodes ≤ 7
  pub labels : n ≡ 2 ^ nodes
  pub small : (e y : ℕ) → e < width → y < n → look profiles e y < n + n
  pub past : (p : ℕ) → n + n ≤ p → on W p ≡ false

-- the set of at most 256 numbers in four words: q is in it if bit q % 64 of word q / 64 is 1
unfoldable pub key_of : List ℕ → ℕ
key_of words = set_below 256 (λ q. on (get_or words (q / 64) 0) (q % 64))

-- there are four words of 64 bits
pub record WordsFit (words : List ℕ) : Type 0 where
  pub long : length words ≡ 4
  pub small : (j : ℕ) → get_or words j 0 < 2 ^ 64

-- word number j of a set
unfoldable pub word_at : ℕ → ℕ → ℕ
word_at k j = set_below 64 (λ i. on k (64 * j + i))

-- its four words
abbrev pub words_of : ℕ → List ℕ
words_of k = word_at k 0 ∷ word_at k 1 ∷ word_at k 2 ∷ word_at k 3 ∷ []

-- of the labels from `from` on, `count` of them, those that the event e takes to a profile at which the array is true
unfoldable pub hits_from : List (List ℕ) → List Bool → ℕ → ℕ → ℕ → ℕ
hits_from profiles held e from count = set_below count (λ i. get_or held (look profiles e (from + i)) false)

-- the numbers of the set `full` that are in the words a, b, a, b
pub record Cut (a b full k : ℕ) : Type 0 where
  pub low : k < 2 ^ 256
  pub at : (q : ℕ) → q < 256 → on k q ≡ (on full q && on (key_of (a ∷ b ∷ a ∷ b ∷ [])) q)
