-- The occurrences of a tree, laid into a list of bytes, while there are fewer than 64: the sign and the numbers of its operands, the operator after these.
use Rattle.std.specs.Prelude.{◌≡◌, cond, List, ℕ, ◌+◌, ◌*◌, ◌≤◌, ◌<◌, length, get_or, drop, set, ltb, Option, Some, None}
use Rattle.meaning.specs.Grammar.{Tree, leaf, pre, bin}
use Rattle.grammar.specs.Descent.{Level, More}
use Rattle.descent.specs.declared.Cursor.{Cursor}

pub record Laid : Type 0 where
  pub out : List ℕ
  pub count : ℕ
  pub root : ℕ

-- the sign x with the operands a and b, as the occurrence with number c
unfoldable pub put : List ℕ → ℕ → ℕ → ℕ → ℕ → Laid
put o c x a b =
    cond (ltb c 64) (record { out = set (set (set o (3 * c) x) (3 * c + 1) a) (3 * c + 2) b; count = c + 1; root = c })
    (record { out = o; count = c; root = 0 })

unfoldable pub lay : Tree → List ℕ → ℕ → Laid
lay (leaf x) o c = put o c x 0 0
lay (pre x t) o c = let s = lay t o c in put s.out s.count x s.root 0
lay (bin x a b) o c = let s = lay a o c in let u = lay b s.out s.count in put u.out u.count x s.root u.root

abbrev pub laid_as : List ℕ → Cursor → Laid
laid_as o r = record { out = o; count = r.count; root = r.root }

-- what `level` did: from `place` on it read a tree at level n, as far as r says, and laid it
pub record Read (signs : List ℕ) (n place : ℕ) (o : List ℕ) (c : ℕ) (o' : List ℕ) (r : Cursor) : Type 0 where
  pub tree : Tree
  pub level : Level n (drop place signs) tree (drop r.at signs)
  pub laid : lay tree o c ≡ laid_as o' r
  pub ahead : place ≤ r.at
  pub within : r.at ≤ length signs

-- what `more` did to a tree a that was laid as c says
pub record Onward (signs : List ℕ) (n : ℕ) (c : Cursor) (a : Tree) (o₀ : List ℕ) (c₀ : ℕ) (o' : List ℕ) (r : Cursor) : Type 0 where
  pub tree : Tree
  pub more : More n a (drop c.at signs) tree (drop r.at signs)
  pub laid : lay tree o₀ c₀ ≡ laid_as o' r

pub record Moved (signs : List ℕ) (n : ℕ) (c : Cursor) (o : List ℕ) (o' : List ℕ) (r : Cursor) : Type 0 where
  pub from : (a : Tree) (o₀ : List ℕ) (c₀ : ℕ) → lay a o₀ c₀ ≡ laid_as o c → Onward signs n c a o₀ c₀ o' r
  pub ahead : c.at ≤ r.at
  pub within : r.at ≤ length signs

-- of the binary signs from m up, none below r stands at a place
pub record Skips (signs : List ℕ) (place m n r : ℕ) : Type 0 where
  pub low : m ≤ r
  pub high : r ≤ n
  pub none : (j : ℕ) → m ≤ j → j < r → place < length signs → get_or signs place 0 ≡ 12 + j → ⊥

-- the binary sign that stands at a place, of those from m up and below n
abbrev pub GoesOn : List ℕ → ℕ → ℕ → ℕ → Option ℕ → Type 0
GoesOn signs place m n None = Skips signs place m n n
GoesOn signs place m n (Some r) = Skips signs place m n r × (r < n)
