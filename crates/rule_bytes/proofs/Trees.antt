-- The rule of a tree: it is well-formed, its formula is the tree's, and its file is accepted.
use mathlib.Core.Path.{◌≡◌, refl, sym, ap, ap₂, ◌∙◌, subst}
use mathlib.Core.List.{List, [], ◌∷◌, ◌++◌}
use mathlib.Core.Bool.{true, false, cond}
use Prim.Native.Nat.{ℕ, zero, suc, ◌+◌, ◌-◌, ◌≤◌, ◌<◌}
use native.Mathlib.Omega.{arith}
use lib.ListN.{length, get_or, length-append, get_or-append}
use lib.Seq.{get_or_at}
use lib.Dec.{ltb, leb, eqb}
use borrow.Author.Tests.{leb-true, lt-ltb}
use Rattle.meaning.specs.Formulas.{Formula, falsum, neg, next, eventually, always, until, and, xor, or, implies, iff}
use Rattle.meaning.specs.RuleFiles.{body_length, operands, temporals, formula_of, formulas, rule_formula}
use Rattle.meaning.specs.Grammar.{Tree, leaf, pre, bin}
use Rattle.meaning.specs.RuleTexts.{tree_formula, kind_of, node, size, nodes_of, rule_of, any_out_of_range}
use Rattle.meaning.specs.declared.Node.{Node}
use Rattle.rule_nodes.proofs.Ranges.{within}
use Rattle.grammar.specs.Signs.{Signs}
use Rattle.grammar.proofs.Trees.{size-some, nodes-length}
use Rattle.rule_bytes.specs.WellFormed.{Formed, AllFormed, KindsFit, WellFormed}

-- ---- the nodes are formed

append-formed : (xs ys : List Node) (k m : ℕ) → m ≡ k + length xs → AllFormed k xs → AllFormed m ys → AllFormed k (xs ++ ys)
append-formed [] ys k m e f g = subst (λ (i : ℕ). AllFormed i ys) (omega arith) g
append-formed (x ∷ xs) ys k m e f g = (f.0, append-formed xs ys (suc k) m (omega arith) f.1 g)

module _ (i : ℕ) where
  signal-formed : (a : ℕ) → Formed i (node 2 a 0)
  signal-formed a = record { kind = omega arith; operands = refl; unused_a = λ l. absurd (omega arith); unused_b = λ l. refl; upper_unsaid = refl }

  leaf-formed : (x : ℕ) → x < 6 → Formed i (node (kind_of x) (cond (ltb x 4) x 0) 0)
  leaf-formed x h =
      within (λ x. Formed i (node (kind_of x) (cond (ltb x 4) x 0) 0)) 0 6
      (signal-formed 0, (signal-formed 1, (signal-formed 2, (signal-formed 3, (true-formed, (false-formed, tt)))))) x (omega arith) (omega arith)
    where
      true-formed : Formed i (node 1 0 0)
      true-formed = record { kind = omega arith; operands = refl; unused_a = λ l. refl; unused_b = λ l. refl; upper_unsaid = refl }

      false-formed : Formed i (node 0 0 0)
      false-formed = record { kind = omega arith; operands = refl; unused_a = λ l. refl; unused_b = λ l. refl; upper_unsaid = refl }

  pre-formed : (x a : ℕ) → 6 ≤ x → x < 10 → a < i → Formed i (node (kind_of x) a 0)
  pre-formed x a l u h =
      record {
        kind = leb-true (kind_of x) 13 has.0;
        operands = rw (has.2, lt-ltb a i h);
        unused_a = λ m. absurd (omega (arith, has.1));
        unused_b = λ m. refl;
        upper_unsaid = rw has.3;
      }
    where
      has : (leb (kind_of x) 13 ≡ true) × (body_length (kind_of x) ≡ 1) × (operands (kind_of x) ≡ 1) × (eqb (kind_of x) 3 ≡ false)
      has = within (λ x. (leb (kind_of x) 13 ≡ true) × (body_length (kind_of x) ≡ 1) × (operands (kind_of x) ≡ 1) × (eqb (kind_of x) 3 ≡ false)) 6 4 (search depth 20) x l (omega arith)

  bin-formed : (x a b : ℕ) → 12 ≤ x → x < 18 → a < i → b < i → Formed i (node (kind_of x) a b)
  bin-formed x a b l u h k =
      record {
        kind = leb-true (kind_of x) 13 has.0;
        operands = rw (has.2, lt-ltb a i h, lt-ltb b i k);
        unused_a = λ m. absurd (omega (arith, has.1));
        unused_b = λ m. absurd (omega (arith, has.1));
        upper_unsaid = rw has.3;
      }
    where
      has : (leb (kind_of x) 13 ≡ true) × (body_length (kind_of x) ≡ 2) × (operands (kind_of x) ≡ 2) × (eqb (kind_of x) 3 ≡ false)
      has = within (λ x. (leb (kind_of x) 13 ≡ true) × (body_length (kind_of x) ≡ 2) × (operands (kind_of x) ≡ 2) × (eqb (kind_of x) 3 ≡ false)) 12 6 (search depth 20) x l (omega arith)

pub nodes-formed : (t : Tree) (k : ℕ) → Signs t → AllFormed k (nodes_of k t)
unfolding nodes_of
nodes-formed (leaf x) k h = (leaf-formed k x (omega arith), tt)
nodes-formed (pre x t) k h =
    let n = node (kind_of x) (k + size t - 1) 0 in
    append-formed (nodes_of k t) (n ∷ []) k (k + size t) (omega (arith, nodes-length k t)) (nodes-formed t k h.2)
    (pre-formed (k + size t) x (k + size t - 1) (omega (arith, h.0)) (omega (arith, h.1)) (omega (arith, size-some t)), tt)
nodes-formed (bin x s t) k h =
    let front : List Node = nodes_of k s ++ nodes_of (k + size s) t in
    let n = node (kind_of x) (k + size s - 1) (k + size s + size t - 1) in
    let both : AllFormed k front =
    append-formed (nodes_of k s) (nodes_of (k + size s) t) k (k + size s) (omega (arith, nodes-length k s)) (nodes-formed s k h.2) (nodes-formed t (k + size s) h.3) in
    append-formed front (n ∷ []) k (k + size s + size t)
    (omega (arith, length-append (nodes_of k s) (nodes_of (k + size s) t), nodes-length k s, nodes-length (k + size s) t)) both
    (bin-formed (k + size s + size t) x (k + size s - 1) (k + size s + size t - 1) h.0 h.1 (omega (arith, size-some s)) (omega (arith, size-some t)), tt)

kind-formed : (ns : List Node) (k i : ℕ) → AllFormed k ns → i < length ns → (get_or ns i (node 0 0 0)).kind ≤ 13
kind-formed [] k i h l = omega arith
kind-formed (n ∷ ns) k zero h l = h.0.kind
kind-formed (n ∷ ns) k (suc i) h l = kind-formed ns (suc k) i h.1 (omega arith)

pub tree-kinds : (t : Tree) (k : ℕ) → Signs t → KindsFit (nodes_of k t)
tree-kinds t k h = record { kind = λ i l. kind-formed (nodes_of k t) k i (nodes-formed t k h) l }

pub tree-rule : (P : ℕ) (t : Tree) → Signs t → 1 ≤ P → P ≤ 4 → size t ≤ 64 → any_out_of_range P (nodes_of 0 t) ≡ false → temporals (nodes_of 0 t) ≤ 7 → WellFormed (rule_of P t)
tree-rule P t h low high few range temporal =
    record {
      signals_low = low;
      signals_high = high;
      mask_unsaid = omega arith;
      count_low = omega (arith, nodes-length 0 t, size-some t);
      count_high = omega (arith, nodes-length 0 t);
      formed = nodes-formed t 0 h;
      in_range = range;
      temporal_few = temporal;
    }

-- ---- the formula

formulas-append : (xs ys : List Node) (fs : List Formula) → formulas fs (xs ++ ys) ≡ formulas (formulas fs xs) ys
formulas-append [] ys fs = refl
formulas-append (x ∷ xs) ys fs = formulas-append xs ys (fs ++ (formula_of fs x ∷ []))

formulas-length : (ns : List Node) (fs : List Formula) → length (formulas fs ns) ≡ length fs + length ns
formulas-length [] fs = omega arith
formulas-length (n ∷ ns) fs = formulas-length ns (fs ++ (formula_of fs n ∷ [])) ∙ omega (arith, length-append fs (formula_of fs n ∷ []))

-- earlier formulas stay
formulas-keep : (ns : List Node) (fs : List Formula) (i : ℕ) → i < length fs → get_or (formulas fs ns) i falsum ≡ get_or fs i falsum
formulas-keep [] fs i h = refl
formulas-keep (n ∷ ns) fs i h =
    let f : List Formula = formula_of fs n ∷ [] in
    formulas-keep ns (fs ++ f) i (omega (arith, length-append fs f)) ∙ get_or-append fs f falsum i h

-- the formula of the last node
formulas-last : (ns : List Node) (n : Node) (fs : List Formula) (i : ℕ) → i ≡ length fs + length ns → get_or (formulas fs (ns ++ (n ∷ []))) i falsum ≡ formula_of (formulas fs ns) n
formulas-last ns n fs i e =
    ap (λ (gs : List Formula). get_or gs i falsum) (formulas-append ns (n ∷ []) fs)
    ∙ get_or_at (formulas fs ns) (formula_of (formulas fs ns) n) [] falsum i (formulas-length ns fs ∙ sym e)

leaf-formula : (fs : List Formula) (x : ℕ) → x < 6 → formula_of fs (node (kind_of x) (cond (ltb x 4) x 0) 0) ≡ tree_formula (leaf x)
unfolding tree_formula
leaf-formula fs x h =
    within (λ x. formula_of fs (node (kind_of x) (cond (ltb x 4) x 0) 0) ≡ tree_formula (leaf x)) 0 6 (refl, (refl, (refl, (refl, (refl, (refl, tt)))))) x (omega arith)
    (omega arith)

pre-formula : (fs : List Formula) (x a : ℕ) (t : Tree) → 6 ≤ x → x < 10 → get_or fs a falsum ≡ tree_formula t → formula_of fs (node (kind_of x) a 0) ≡ tree_formula (pre x t)
unfolding tree_formula
pre-formula fs x a t l u e =
    within (λ x. formula_of fs (node (kind_of x) a 0) ≡ tree_formula (pre x t)) 6 4 (ap neg e, (ap next e, (ap eventually e, (ap always e, tt)))) x l (omega arith)

bin-formula : (fs : List Formula) (x a b : ℕ) (s t : Tree) → 12 ≤ x → x < 18 → get_or fs a falsum ≡ tree_formula s → get_or fs b falsum ≡ tree_formula t
    → formula_of fs (node (kind_of x) a b) ≡ tree_formula (bin x s t)
unfolding tree_formula
bin-formula fs x a b s t l u e f =
    within (λ x. formula_of fs (node (kind_of x) a b) ≡ tree_formula (bin x s t)) 12 6
    (ap₂ until e f, (ap₂ and e f, (ap₂ xor e f, (ap₂ or e f, (ap₂ implies e f, (ap₂ iff e f, tt)))))) x l (omega arith)

-- the formula of a tree's last node, where its first has number k
tree-last : (t : Tree) (fs : List Formula) (k : ℕ) → Signs t → k ≡ length fs → get_or (formulas fs (nodes_of k t)) (k + size t - 1) falsum ≡ tree_formula t
unfolding size nodes_of
tree-last (leaf x) fs k h e = formulas-last [] (node (kind_of x) (cond (ltb x 4) x 0) 0) fs (k + 1 - 1) (omega arith) ∙ leaf-formula fs x h
tree-last (pre x t) fs k h e =
    let ns = nodes_of k t in
    let n = node (kind_of x) (k + size t - 1) 0 in
    formulas-last ns n fs (k + (size t + 1) - 1) (omega (arith, nodes-length k t))
    ∙ pre-formula (formulas fs ns) x (k + size t - 1) t h.0 h.1 (tree-last t fs k h.2 e)
tree-last (bin x s t) fs k h e =
    let a = k + size s - 1 in
    let b = k + size s + size t - 1 in
    let ns = nodes_of k s in
    let ms = nodes_of (k + size s) t in
    let gs : List Formula = formulas fs ns in
    let many : k + size s ≡ length gs = omega (arith, formulas-length ns fs, nodes-length k s) in
    let first : get_or (formulas gs ms) a falsum ≡ tree_formula s = formulas-keep ms gs a (omega (arith, size-some s)) ∙ tree-last s fs k h.2 e in
    let second : get_or (formulas gs ms) b falsum ≡ tree_formula t = tree-last t gs (k + size s) h.3 many in
    formulas-last (ns ++ ms) (node (kind_of x) a b) fs (k + (size s + size t + 1) - 1) (omega (arith, length-append ns ms, nodes-length k s, nodes-length (k + size s) t))
    ∙ ap (λ (hs : List Formula). formula_of hs (node (kind_of x) a b)) (formulas-append ns ms fs)
    ∙ bin-formula (formulas gs ms) x a b s t h.0 h.1 first second

pub tree-formula : (P : ℕ) (t : Tree) → Signs t → rule_formula (rule_of P t) ≡ tree_formula t
tree-formula P t h =
    ap (λ (i : ℕ). get_or (formulas [] (nodes_of 0 t)) i falsum) (omega (arith, nodes-length 0 t)) ∙ tree-last t [] 0 h refl
