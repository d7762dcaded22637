-- The descent over signs, as a function with fuel: at level n it reads a tree and leaves a rest. And what it is asked for, with any fuel that is enough.
use Rattle.std.specs.Prelude.{◌≡◌, cond, List, [], ◌∷◌, ℕ, zero, suc, ◌+◌, ◌*◌, ◌≤◌, length, drop, eqb, ltb}
use Rattle.meaning.specs.Grammar.{Tree, leaf, pre, bin, rightward}

pub record Got : Type 0 where
  pub tree : Tree
  pub rest : List ℕ

unfoldable mutual
  pub level_f : ℕ → ℕ → List ℕ → Got
  level_f zero n ts = record { tree = leaf 4; rest = ts }
  level_f (suc k) zero [] = record { tree = leaf 4; rest = [] }
  level_f (suc k) zero (x ∷ ts) =
      let g : Got = (let i = level_f k 6 ts in record { tree = i.tree; rest = drop 1 i.rest }) in
      let h : Got = (let i = level_f k 0 ts in record { tree = pre x i.tree; rest = i.rest }) in
      cond (eqb x 10) g (cond (ltb x 6) (record { tree = leaf x; rest = ts }) h)
  level_f (suc k) (suc n) ts = let g = level_f k n ts in more_f k n g.tree g.rest

  -- the sign of level n + 1
  pub more_f : ℕ → ℕ → Tree → List ℕ → Got
  more_f zero n a ts = record { tree = a; rest = ts }
  more_f (suc k) n a [] = record { tree = a; rest = [] }
  more_f (suc k) n a (x ∷ ts) =
      let g : Got = (let i = level_f k (suc n) ts in record { tree = bin (12 + n) a i.tree; rest = i.rest }) in
      let h : Got = (let i = level_f k n ts in more_f k n (bin (12 + n) a i.tree) i.rest) in
      let j : Got = cond (rightward n) g h in
      cond (eqb x (12 + n)) j (record { tree = a; rest = x ∷ ts })

abbrev pub got : Tree → List ℕ → Got
got t r = record { tree = t; rest = r }

-- the descent at level n reads the tree t off ts and leaves r, with any fuel that is enough
pub record Level (n : ℕ) (ts : List ℕ) (t : Tree) (r : List ℕ) : Type 0 where
  pub is : (k : ℕ) → 16 * length ts + 2 * n + 2 ≤ k → level_f k n ts ≡ got t r
  pub shorter : length r ≤ length ts

-- with a read, what goes on by signs of level n + 1 gives the tree t and leaves r
pub record More (n : ℕ) (a : Tree) (ts : List ℕ) (t : Tree) (r : List ℕ) : Type 0 where
  pub is : (k : ℕ) → 16 * length ts + 2 * n + 3 ≤ k → more_f k n a ts ≡ got t r
  pub shorter : length r ≤ length ts
