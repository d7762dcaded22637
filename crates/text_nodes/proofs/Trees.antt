-- What the descent lays are the tree's nodes, each where its number says; and a tree has as many as its signs have occurrences.
use mathlib.Core.Path.{◌≡◌, refl, sym, ap, ◌∙◌, subst}
use mathlib.Core.List.{List, [], ◌∷◌, ◌++◌}
use Prim.Native.Nat.{ℕ, ◌+◌, ◌-◌, ◌*◌, ◌≤◌, ◌<◌}
use native.Mathlib.Omega.{arith}
use lib.ListN.{length, take, get_or, set, length-set, length-append, get_or-append}
use lib.Seq.{get_or-append-add, get_or-set_same, get_or-set_other, ext_get_or}
use native.Mathlib.Decide.{dec_lt}
use borrow.Author.Tests.{lt-ltb, le-ltb, ne_eqb}
use Rattle.sequences.specs.Tabulate.{tabulate}
use Rattle.sequences.proofs.Loops.{length-tab, get_d-tab}
use Rattle.meaning.specs.Grammar.{Tree, leaf, pre, bin, Parses, atom, prefix, brackets, tighter, left, right}
use Rattle.meaning.specs.RuleTexts.{node, kind_of, size, nodes_of}
use Rattle.meaning.specs.declared.Node.{Node}
use Rattle.grammar.specs.Signs.{Signs}
use Rattle.grammar.proofs.Trees.{nodes-length}
use Rattle.grammar.specs.Descent.{Got}
use Rattle.grammar.specs.Reading.{tree_of}
use Rattle.descent.specs.Laying.{Laid, put, lay, laid_as, Read}
use Rattle.descent.specs.declared.Cursor.{Cursor}
use Rattle.text_nodes.specs.Occurrences.{occurrences, node_of, node_in}

blank : Node
blank = node 0 0 0

-- over o, from number c on, the nodes ns were laid, and s is what is then there
record Lays (o : List ℕ) (c : ℕ) (ns : List Node) (s : Laid) : Type 0 where
  count : s.count ≡ c + length ns
  root : s.root + 1 ≡ s.count
  size : length s.out ≡ length o
  before : (i : ℕ) → i < c → node_in s.out i ≡ node_in o i
  here : (j : ℕ) → j < length ns → node_in s.out (c + j) ≡ get_or ns j blank

-- three bytes stored for number c
stored : List ℕ → ℕ → ℕ → ℕ → ℕ → List ℕ
stored o c x a b = set (set (set o (3 * c) x) (3 * c + 1) a) (3 * c + 2) b

stored_other : (o : List ℕ) (c x a b k : ℕ) → (k ≡ 3 * c → ⊥) → (k ≡ 3 * c + 1 → ⊥) → (k ≡ 3 * c + 2 → ⊥) → get_or (stored o c x a b) k 0 ≡ get_or o k 0
unfolding stored
stored_other o c x a b k f g h =
    get_or-set_other (set (set o (3 * c) x) (3 * c + 1) a) (3 * c + 2) k b 0 h
    ∙ get_or-set_other (set o (3 * c) x) (3 * c + 1) k a 0 g
    ∙ get_or-set_other o (3 * c) k x 0 f

stored-length : (o : List ℕ) (c x a b : ℕ) → length (stored o c x a b) ≡ length o
unfolding stored
stored-length o c x a b = simp length-set

stored-sign : (o : List ℕ) (c x a b : ℕ) → 3 * c + 3 ≤ length o → get_or (stored o c x a b) (3 * c) 0 ≡ x
unfolding stored
stored-sign o c x a b h =
    get_or-set_other (set (set o (3 * c) x) (3 * c + 1) a) (3 * c + 2) (3 * c) b 0 (λ e. omega arith)
    ∙ get_or-set_other (set o (3 * c) x) (3 * c + 1) (3 * c) a 0 (λ e. omega arith)
    ∙ get_or-set_same o (3 * c) x 0 (omega arith)

stored-a : (o : List ℕ) (c x a b : ℕ) → 3 * c + 3 ≤ length o → get_or (stored o c x a b) (3 * c + 1) 0 ≡ a
unfolding stored
stored-a o c x a b h =
    get_or-set_other (set (set o (3 * c) x) (3 * c + 1) a) (3 * c + 2) (3 * c + 1) b 0 (λ e. omega arith)
    ∙ get_or-set_same (set o (3 * c) x) (3 * c + 1) a 0 (simp length-set (omega arith))

stored-b : (o : List ℕ) (c x a b : ℕ) → 3 * c + 3 ≤ length o → get_or (stored o c x a b) (3 * c + 2) 0 ≡ b
unfolding stored
stored-b o c x a b h = get_or-set_same (set (set o (3 * c) x) (3 * c + 1) a) (3 * c + 2) b 0 (simp length-set (omega arith))

put_is : (o : List ℕ) (c x a b : ℕ) → c < 64 → put o c x a b ≡ record { out = stored o c x a b; count = c + 1; root = c }
unfolding put stored
put_is o c x a b h = rw (lt-ltb c 64 h)

lays-stored : (o : List ℕ) (c x a b : ℕ) → 3 * c + 3 ≤ length o → Lays o c (node_of x a b ∷ []) (record { out = stored o c x a b; count = c + 1; root = c })
lays-stored o c x a b h = record {
  count = refl;
  root = refl;
  size = stored-length o c x a b;
  before = λ i l. rw (stored_other o c x a b (3 * i) (λ e. omega arith) (λ e. omega arith) (λ e. omega arith), stored_other o c x a b (3 * i + 1) (λ e. omega arith) (λ e. omega arith) (λ e. omega arith), stored_other o c x a b (3 * i + 2) (λ e. omega arith) (λ e. omega arith) (λ e. omega arith));
  here = λ j l. let z : j ≡ 0 = omega arith in let y : c + j ≡ c = omega arith in rw (y, z, stored-sign o c x a b h, stored-a o c x a b h, stored-b o c x a b h);
}

lays-put : (o : List ℕ) (c x a b : ℕ) → c < 64 → 3 * c + 3 ≤ length o → Lays o c (node_of x a b ∷ []) (put o c x a b)
lays-put o c x a b l h = rw (put_is o c x a b l) (lays-stored o c x a b h)

-- one after the other
lays-then : {o : List ℕ} {c : ℕ} {ns : List Node} {s : Laid} {ms : List Node} {u : Laid} → Lays o c ns s → Lays s.out s.count ms u → Lays o c (ns ++ ms) u
lays-then {o} {c} {ns} {s} {ms} {u} p q = record {
  count = simp length-append (omega (arith, p.count, q.count));
  root = q.root;
  size = q.size ∙ p.size;
  before = λ i l. q.before i (omega (arith, p.count)) ∙ p.before i l;
  here = λ j l. go j l (dec_lt j (length ns));
}
  where
    go : (j : ℕ) → j < length (ns ++ ms) → Dec (j < length ns) → node_in u.out (c + j) ≡ get_or (ns ++ ms) j blank
    go j l (yes h) = q.before (c + j) (omega (arith, p.count)) ∙ p.here j h ∙ sym (get_or-append ns ms blank j h)
    go j l (no h) =
        let k : ℕ = j - length ns in
        let e : s.count + k ≡ c + j = omega (arith, p.count) in
        let f : length ns + k ≡ j = omega arith in
        let m : j < length ns + length ms = simp length-append at l in
        subst (λ (i : ℕ). node_in u.out i ≡ get_or (ns ++ ms) j blank) e (q.here k (omega arith) ∙ sym (get_or-append-add ns ms k blank) ∙ ap (λ (i : ℕ). get_or (ns ++ ms) i blank) f)

-- an operator after what was laid, with its operands a and b
lays-sign : {o : List ℕ} {c : ℕ} {ns : List Node} {s : Laid} (x a b a' b' : ℕ) → Lays o c ns s → 6 ≤ x → a ≡ a' → b ≡ b' → s.count < 64 → 3 * s.count + 3 ≤ length o
    → Lays o c (ns ++ (node (kind_of x) a' b' ∷ [])) (put s.out s.count x a b)
lays-sign {o} {c} {ns} {s} x a b a' b' p l e f m h =
    let n : node_of x a b ≡ node (kind_of x) a' b' = rw (le-ltb x 4 (omega arith), e, f) in
    lays-then p (subst (λ (y : Node). Lays s.out s.count (y ∷ []) (put s.out s.count x a b)) n (lays-put s.out s.count x a b m (omega (arith, p.size))))

lays : (t : Tree) (o : List ℕ) (c : ℕ) → Signs t → c + size t ≤ 64 → 3 * (c + size t) ≤ length o → Lays o c (nodes_of c t) (lay t o c)
unfolding lay nodes_of size
lays (leaf x) o c g l h = lays-put o c x 0 0 (omega arith) (omega arith)
lays (pre x t) o c g l h =
    let p = lays t o c g.2 (omega arith) (omega arith) in
    let n = nodes-length c t in
    lays-sign x (lay t o c).root 0 (c + size t - 1) 0 p g.0 (omega (arith, p.root, p.count)) refl (omega (arith, p.count)) (omega (arith, p.count))
lays (bin x s t) o c g l h =
    let p = lays s o c g.2 (omega arith) (omega arith) in
    let m = nodes-length c s in
    let n = nodes-length (c + size s) t in
    let u = lay s o c in
    let e : u.count ≡ c + size s = omega (arith, p.count) in
    let q : Lays u.out u.count (nodes_of (c + size s) t) (lay t u.out u.count) =
    subst (λ (k : ℕ). Lays u.out u.count (nodes_of k t) (lay t u.out u.count)) e (lays t u.out u.count g.3 (omega arith) (omega (arith, p.size))) in
    lays-sign x u.root (lay t u.out u.count).root (c + size s - 1) (c + size s + size t - 1) (lays-then p q) (omega (arith, g.0)) (omega (arith, p.root)) (omega (arith, q.root, q.count)) (omega (arith, q.count)) (omega (arith, q.count))

-- a tree of at most 64 nodes: as many were laid, and they are its nodes
pub record Whole (t : Tree) (s : Laid) : Type 0 where
  pub count : s.count ≡ size t
  pub nodes : tabulate (size t) (node_in s.out) ≡ nodes_of 0 t

pub whole : (t : Tree) (o : List ℕ) → Signs t → size t ≤ 64 → 192 ≤ length o → Whole t (lay t o 0)
whole t o g l h =
    let p = lays t o 0 g (omega arith) (omega arith) in
    let n = nodes-length 0 t in
    record {
      count = omega (arith, p.count);
      nodes = ext_get_or blank (tabulate (size t) (node_in (lay t o 0).out)) (nodes_of 0 t) (length-tab (size t) (node_in (lay t o 0).out) ∙ sym n)
          (λ i m. let b : i < size t = subst (λ (k : ℕ). i < k) (length-tab (size t) (node_in (lay t o 0).out)) m in
          get_d-tab (size t) (node_in (lay t o 0).out) i blank b ∙ ap (node_in (lay t o 0).out) (omega arith) ∙ p.here i (omega arith));
    }

-- ---- as many nodes as occurrences

occurrences-append : (us vs : List ℕ) → occurrences (us ++ vs) ≡ occurrences us + occurrences vs
unfolding occurrences
occurrences-append [] vs = omega arith
occurrences-append (x ∷ us) vs = let e = occurrences-append us vs in omega arith

one_more : (x : ℕ) (ts : List ℕ) → (x ≡ 10 → ⊥) → (x ≡ 11 → ⊥) → occurrences (x ∷ ts) ≡ 1 + occurrences ts
unfolding occurrences
one_more x ts f g = rw (ne_eqb x 10 f, ne_eqb x 11 g)

none : occurrences [] ≡ 0
unfolding occurrences
none = refl

bracketed : (ts : List ℕ) → occurrences (10 ∷ (ts ++ (11 ∷ []))) ≡ occurrences ts
unfolding occurrences
bracketed ts = let e = occurrences-append ts (11 ∷ []) in omega arith

joined-size : (n i j : ℕ) (us vs : List ℕ) → i ≡ occurrences us → j ≡ occurrences vs → i + j + 1 ≡ occurrences (us ++ ((12 + n) ∷ vs))
joined-size n i j us vs p q = let e = occurrences-append us ((12 + n) ∷ vs) in let g = one_more (12 + n) vs (λ z. omega arith) (λ z. omega arith) in omega arith

pub size_is : {n : ℕ} {ts : List ℕ} {t : Tree} → Parses n ts t → size t ≡ occurrences ts
unfolding size
size_is (atom {x} h) = let e = one_more x [] (λ q. omega arith) (λ q. omega arith) in omega (arith, none)
size_is (prefix {x} {ts} l u p) = let i = size_is p in let e = one_more x ts (λ q. omega arith) (λ q. omega arith) in omega arith
size_is (brackets {ts} p) = size_is p ∙ sym (bracketed ts)
size_is (tighter p) = size_is p
size_is (left {n} {us} {vs} f p q) = joined-size n _ _ us vs (size_is p) (size_is q)
size_is (right {n} {us} {vs} f p q) = joined-size n _ _ us vs (size_is p) (size_is q)

-- ---- what the descent laid

pub record Listed (s o : List ℕ) (r : Cursor) : Type 0 where
  pub count : r.count ≡ size (tree_of s)
  pub nodes : tabulate (size (tree_of s)) (node_in o) ≡ nodes_of 0 (tree_of s)

tree-read : {s o o' : List ℕ} {r : Cursor} (p : Read s 6 0 o 0 o' r) → p.tree ≡ tree_of s
unfolding tree_of
tree-read {s} p = sym (ap (λ (g : Got). g.tree) (p.level.is (16 * length s + 14) (omega arith)))

pub listed : {s o o' : List ℕ} {r : Cursor} → Read s 6 0 o 0 o' r → Signs (tree_of s) → size (tree_of s) ≤ 64 → 192 ≤ length o → Listed s o' r
listed {s} {o} {o'} {r} p g l h =
    let w = whole (tree_of s) o g l h in
    let e : lay (tree_of s) o 0 ≡ laid_as o' r = ap (λ (t : Tree). lay t o 0) (sym (tree-read p)) ∙ p.laid in
    record {
      count = ap (λ (z : Laid). z.count) (sym e) ∙ w.count;
      nodes = ap (λ (z : Laid). tabulate (size (tree_of s)) (node_in z.out)) (sym e) ∙ w.nodes;
    }

pub listed-taken : {s o : List ℕ} {r : Cursor} (ns : List Node) → Listed s o r → take r.count ns ≡ tabulate r.count (node_in o) → take (size (tree_of s)) ns ≡ nodes_of 0 (tree_of s)
listed-taken {s} {o} {r} ns l e = subst (λ (n : ℕ). take n ns ≡ tabulate n (node_in o)) l.count e ∙ l.nodes
