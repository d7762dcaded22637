-- Rule text (document 02, C-11): its signs, the grammar, and which texts fit. Field term for a sign: token.
use Rattle.std.specs.Prelude.{◌≡◌, List, [], ◌∷◌, ◌++◌, Bool, true, false, ◌||◌, ℕ, suc, ◌+◌, ◌≤◌, ◌<◌, length, take, get_or, eqb}
use Rattle.meaning.specs.Bytes.{ascii}

-- ---- signs

-- "A text names signals s0 to s3, true and false. It has the prefixes !, X, F, G and round brackets. Binary signs, tightest first, are U, &, ^, |,
-- -> and <->": the signs in this order, by number from 0, and the bytes of each.
abbrev pub spelling : ℕ → List ℕ
spelling x =
    get_or
    (ascii "s0" ∷ ascii "s1" ∷ ascii "s2" ∷ ascii "s3" ∷ ascii "true" ∷ ascii "false"  -- 0 to 5
    ∷ ascii "!" ∷ ascii "X" ∷ ascii "F" ∷ ascii "G"  -- 6 to 9
    ∷ ascii "(" ∷ ascii ")"  -- 10, 11
    ∷ ascii "U" ∷ ascii "&" ∷ ascii "^" ∷ ascii "|" ∷ ascii "->" ∷ ascii "<->" ∷ [])  -- 12 to 17
    x []

-- "Spaces may stand before, between and after signs": the bytes s spell the signs ts
pub data Spells : List ℕ → List ℕ → Type 0 where
  ended : Spells [] []
  space : {ts s : List ℕ} → Spells ts s → Spells ts (32 ∷ s)
  sign : {x : ℕ} {ts s : List ℕ} → x < 18 → Spells ts s → Spells (x ∷ ts) (spelling x ++ s)

-- ---- the grammar

-- how a text reads: an operand, a prefix over what it stands before, a binary sign between two, each by the number of its sign
pub data Tree : Type 0 where
  leaf : ℕ → Tree
  pre : ℕ → Tree → Tree
  bin : ℕ → Tree → Tree → Tree

-- "U and -> group to the right, the others to the left": of the binary signs, by number from 0
unfoldable pub rightward : ℕ → Bool
rightward n = eqb n 0 || eqb n 4

-- The signs ts are an expression of a level, with the tree t. "Prefixes bind tightest": level 0 has no binary sign outside brackets; level n + 1
-- has besides the n + 1 tightest.
pub data Parses : ℕ → List ℕ → Tree → Type 0 where
  atom : {x : ℕ} → x < 6 → Parses 0 (x ∷ []) (leaf x)
  prefix : {x : ℕ} {ts : List ℕ} {t : Tree} → 6 ≤ x → x < 10 → Parses 0 ts t → Parses 0 (x ∷ ts) (pre x t)
  brackets : {ts : List ℕ} {t : Tree} → Parses 6 ts t → Parses 0 (10 ∷ (ts ++ (11 ∷ []))) t
  tighter : {n : ℕ} {ts : List ℕ} {t : Tree} → Parses n ts t → Parses (suc n) ts t
  left : {n : ℕ} {us vs : List ℕ} {a b : Tree} → rightward n ≡ false → Parses (suc n) us a → Parses n vs b
      → Parses (suc n) (us ++ ((12 + n) ∷ vs)) (bin (12 + n) a b)
  right : {n : ℕ} {us vs : List ℕ} {a b : Tree} → rightward n ≡ true → Parses n us a → Parses (suc n) vs b
      → Parses (suc n) (us ++ ((12 + n) ∷ vs)) (bin (12 + n) a b)

-- ---- texts

-- the text s fits, and t is how it reads
pub record Fits (s : List ℕ) (t : Tree) : Type 0 where
  pub signs : List ℕ
  pub spells : Spells signs s
  pub parses : Parses 6 signs t

-- some "further text, of any length," makes s fit
pub record Viable (s : List ℕ) : Type 0 where
  pub further : List ℕ
  pub tree : Tree
  pub fits : Fits (s ++ further) tree

-- "the first byte where no further text, of any length, could make the part up to and including it fit, or the length if the text merely stops"
pub record FaultAt (s : List ℕ) (p : ℕ) : Type 0 where
  pub within : p ≤ length s
  pub before : (k : ℕ) → k < p → Viable (take (suc k) s)
  pub here : p < length s → ¬ Viable (take (suc p) s)

-- what reading a text finds: how it reads, or that it does not fit, and the place
pub data Parsed : Type 0 where
  Fitting : Tree → Parsed
  Outside : ℕ → Parsed

abbrev pub ParsedAs : List ℕ → Parsed → Type 0
ParsedAs s (Fitting t) = Fits s t
ParsedAs s (Outside p) = ((t : Tree) → ¬ Fits s t) × FaultAt s p
