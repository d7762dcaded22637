-- Trees of texts that fit: each sign in its place, and as many nodes as the size says.
use mathlib.Core.Path.{◌≡◌, refl}
use mathlib.Core.List.{List, [], ◌∷◌, ◌++◌}
use Prim.Native.Nat.{ℕ, ◌+◌, ◌-◌, ◌≤◌}
use native.Mathlib.Omega.{arith}
use lib.ListN.{length, length-append}
use Rattle.meaning.specs.Grammar.{Tree, leaf, pre, bin, Parses, atom, prefix, brackets, tighter, left, right}
use Rattle.meaning.specs.RuleTexts.{kind_of, node, size, nodes_of}
use Rattle.meaning.specs.declared.Node.{Node}
use Rattle.grammar.specs.Signs.{Signs}

-- the tree of a text that fits has each sign in its place
pub signs_of : {n : ℕ} {ts : List ℕ} {t : Tree} → Parses n ts t → n ≤ 6 → Signs t
signs_of (atom l) h = omega arith
signs_of (prefix l u p) h = (omega arith, omega arith, signs_of p h)
signs_of (brackets p) h = signs_of p (omega arith)
signs_of (tighter p) h = signs_of p (omega arith)
signs_of (left e p q) h = (omega arith, omega arith, signs_of p h, signs_of q (omega arith))
signs_of (right e p q) h = (omega arith, omega arith, signs_of p (omega arith), signs_of q h)

-- ---- how many nodes

pub size-some : (t : Tree) → 1 ≤ size t
unfolding size
size-some (leaf x) = omega arith
size-some (pre x t) = omega arith
size-some (bin x s t) = omega arith

pub nodes-length : (k : ℕ) (t : Tree) → length (nodes_of k t) ≡ size t
unfolding size nodes_of
nodes-length k (leaf x) = refl
nodes-length k (pre x t) = let n = node (kind_of x) (k + size t - 1) 0 in omega (arith, length-append (nodes_of k t) (n ∷ []), nodes-length k t)
nodes-length k (bin x s t) =
    let front : List Node = nodes_of k s ++ nodes_of (k + size s) t in
    let n = node (kind_of x) (k + size s - 1) (k + size s + size t - 1) in
    omega (arith, length-append front (n ∷ []), length-append (nodes_of k s) (nodes_of (k + size s) t), nodes-length k s, nodes-length (k + size s) t)
