-- Labels that lead to each other are in one component, and the edges on closed walks through a label are those within its component.
use mathlib.Core.Path.{◌≡◌, refl, sym, ap, ap₂, ◌∙◌, subst}
use mathlib.Core.Logic.{◌⊎◌, inl, inr}
use mathlib.Core.Bool.{Bool, true, false, ◌&&◌}
use mathlib.Core.List.{List}
use Prim.Native.Nat.{ℕ, ◌≤◌, ◌<◌}
use native.Mathlib.Nat.{mod-lt}
use native.Mathlib.Decide.{ℕ_discrete, dec_lt}
use native.Mathlib.Omega.{arith}
use lib.ListN.{get_or}
use lib.Dec.{T, eqb, eqb→eq}
use borrow.Author.Tests.{eq-eqb, ne_eqb}
use Rattle.sequences.proofs.Pointwise.{is_true}
use Rattle.sequences.proofs.Pigeonhole.{Least, least-below}
use Rattle.meaning.specs.Traces.{Alphabet}
use Rattle.ltl.specs.Sets.{union_below, union_events}
use Rattle.ltl.specs.Realizable.{all_of}
use Rattle.ltl.specs.Keys.{look}
use Rattle.ltl.proofs.Truth.{t-equal}
use Rattle.ltl.proofs.Searches.{both, both-cases}
use Rattle.valuation.specs.Entries.{Entries}
use Rattle.relations.specs.Relations.{label_at, only_if, Reaches}
use Rattle.realizability.specs.Core.{leads_by, via_by, core_by, both_ways, component_by, Within, within_component, AllGathered, core_in}
use Rattle.relations.proofs.Searches.{union-same, union-events-same}

module _ (r : ℕ → ℕ → Bool) where
  leads-there : (x y : ℕ) → x ≡ y → true ≡ leads_by r x y
  leads-there x y e = sym (ap (λ (b : Bool). elim b [ true ↦ true | false ↦ r x y ]) (eq-eqb x y e))

  leads-else : (x y : ℕ) → (x ≡ y → ⊥) → r x y ≡ leads_by r x y
  leads-else x y n = sym (ap (λ (b : Bool). elim b [ true ↦ true | false ↦ r x y ]) (ne_eqb x y n))

both_true : (a b : Bool) → (a && b) ≡ true → (a ≡ true) × (b ≡ true)
both_true true b e = (refl, e)
both_true false b e = absurd (subst T (sym e) tt)

-- a set by two tests
abbrev pick : Bool → Bool → ℕ → ℕ
pick a b v = elim a [ true ↦ elim b [ true ↦ v | false ↦ 0 ] | false ↦ 0 ]

abbrev and : Bool → Bool → Bool
and a b = elim a [ true ↦ b | false ↦ false ]

pick-and : (a b : Bool) (v : ℕ) → pick a b v ≡ only_if (and a b) v
pick-and true b v = refl
pick-and false b v = refl

pick_same : (a b c d : Bool) (v : ℕ) → (T a → T b → T c × T d) → (T c → T d → T a × T b) → pick a b v ≡ pick c d v
pick_same a b c d v f g = pick-and a b v ∙ ap (λ (t : Bool). only_if t v) (t-equal (and a b) (and c d) into out) ∙ sym (pick-and c d v)
  where
    into : T (and a b) → T (and c d)
    into t = let p = both-cases a b t in let q = f p.0 p.1 in both c d q.0 q.1

    out : T (and c d) → T (and a b)
    out t = let p = both-cases c d t in let q = g p.0 p.1 in both a b q.0 q.1

true-eqb : (a b : ℕ) → a ≡ b → T (eqb a b)
true-eqb a b e = subst T (sym (eq-eqb a b e)) tt

-- the first label of a component is a label
pub components-within : {n : ℕ} (r : ℕ → ℕ → Bool) {components : List ℕ} → Entries n (component_by r) 0 components → Within n components
components-within r h = record { is = λ y l. omega (arith, h.entry y l, (least-below y (λ x. both_ways r x y)).bound) }

module _ (n : ℕ) (r : ℕ → ℕ → Bool) (via : (x v y : ℕ) → x < n → v < n → y < n → r x v ≡ true → r v y ≡ true → r x y ≡ true) where
  -- the same, or they lead to each other
  abbrev Together : ℕ → ℕ → Type 0
  Together x y = (x ≡ y) ⊎ ((r x y ≡ true) × (r y x ≡ true))

  turned : {x y : ℕ} → Together x y → Together y x
  turned (inl e) = inl (sym e)
  turned (inr p) = inr (p.1, p.0)

  chained : (x v y : ℕ) → x < n → v < n → y < n → Together x v → Together v y → Together x y
  chained x v y a b c (inl e) q = subst (λ (z : ℕ). Together z y) (sym e) q
  chained x v y a b c (inr p) (inl e) = subst (λ (z : ℕ). Together x z) e (inr p)
  chained x v y a b c (inr p) (inr q) = inr (via x v y a b c p.0 q.0, via y v x c b a q.1 p.1)

  -- ---- the first of a component

  least : (c : ℕ) → Least c (λ x. both_ways r x c) (component_by r c)
  least c = least-below c (λ x. both_ways r x c)

  component-together : (c : ℕ) → Together (component_by r c) c
  component-together c = go (dec_lt (component_by r c) c)
    where
      go : Dec (component_by r c < c) → Together (component_by r c) c
      go (yes l) = inr (both_true (r (component_by r c) c) (r c (component_by r c)) ((least c).here l))
      go (no l) = inl (omega (arith, (least c).bound))

  component-first : (x c : ℕ) → Together x c → component_by r c ≤ x
  component-first x c t = go (dec_lt x (component_by r c)) t
    where
      go : Dec (x < component_by r c) → Together x c → component_by r c ≤ x
      go (no l) t = omega arith
      go (yes l) (inl e) = omega (arith, (least c).bound)
      go (yes l) (inr p) = absurd (subst T ((least c).before x l) (subst T (sym (ap₂ ◌&&◌ p.0 p.1)) tt))

  component-lt : (c : ℕ) → c < n → component_by r c < n
  component-lt c l = omega (arith, (least c).bound)

  component-same : (x c : ℕ) → x < n → c < n → Together x c → component_by r x ≡ component_by r c
  component-same x c a b t =
      let p : component_by r c ≤ component_by r x = component-first (component_by r x) c (chained (component_by r x) x c (component-lt x a) a b (component-together x) t) in
      let q : component_by r x ≤ component_by r c = component-first (component_by r c) x (chained (component_by r c) c x (component-lt c b) b a (component-together c) (turned t)) in
      omega arith

  same-component : (x c : ℕ) → x < n → c < n → component_by r x ≡ component_by r c → Together x c
  same-component x c a b e =
      chained x (component_by r x) c a (component-lt x a) b (turned (component-together x)) (subst (λ (z : ℕ). Together z c) (sym e) (component-together c))

  -- ---- the edges

  leads-cases : (x y : ℕ) → T (leads_by r x y) → (x ≡ y) ⊎ (r x y ≡ true)
  leads-cases x y t = go (ℕ_discrete x y)
    where
      go : Dec (x ≡ y) → (x ≡ y) ⊎ (r x y ≡ true)
      go (yes e) = inl e
      go (no e) = inr (leads-else r x y e ∙ is_true (leads_by r x y) t)

  together-leads : (x y : ℕ) → Together x y → T (leads_by r x y)
  together-leads x y (inl e) = subst T (leads-there r x y e) tt
  together-leads x y (inr p) = go (ℕ_discrete x y)
    where
      go : Dec (x ≡ y) → T (leads_by r x y)
      go (yes e) = subst T (leads-there r x y e) tt
      go (no e) = subst T (sym p.0 ∙ leads-else r x y e) tt

  -- an edge from x to y that is on a closed walk through c
  module _ (c x y : ℕ) (a : c < n) (b : x < n) (d : y < n) (edge : r x y ≡ true) where
    end-together : (c ≡ x) ⊎ (r c x ≡ true) → (y ≡ c) ⊎ (r y c ≡ true) → Together y c
    end-together p (inl e) = inl e
    end-together (inl e) (inr q) = inr (q, subst (λ (z : ℕ). r z y ≡ true) (sym e) edge)
    end-together (inr p) (inr q) = inr (q, via c x y a b d p edge)

    start-together : (c ≡ x) ⊎ (r c x ≡ true) → (y ≡ c) ⊎ (r y c ≡ true) → Together x c
    start-together (inl e) q = inl (sym e)
    start-together (inr p) (inl e) = inr (subst (λ (z : ℕ). r x z ≡ true) e edge, p)
    start-together (inr p) (inr q) = inr (via x y c b d a edge q, p)

  module _ (components : List ℕ) (h : Entries n (component_by r) 0 components) where
    components-same : (x c : ℕ) → x < n → c < n → Together x c → get_or components x 0 ≡ get_or components c 0
    components-same x c a b t = h.entry x a ∙ component-same x c a b t ∙ sym (h.entry c b)

    same-components : (x c : ℕ) → x < n → c < n → get_or components x 0 ≡ get_or components c 0 → Together x c
    same-components x c a b e = same-component x c a b (sym (h.entry x a) ∙ e ∙ h.entry c b)

    module _ (before fair : ℕ → ℕ → ℕ) (c e y : ℕ) (a : c < n) (b : before e y < n) (d : y < n) (edge : r (before e y) y ≡ true) where
      via-within : within_component components before fair e (get_or components c 0) y ≡ via_by r before fair c e y
      via-within =
          pick_same (eqb (get_or components y 0) (get_or components c 0)) (eqb (get_or components (before e y) 0) (get_or components c 0)) (leads_by r c (before e y)) (leads_by r y c) (fair e y)
          (λ s t. (
            together-leads c (before e y) (turned (same-components (before e y) c b a (eqb→eq (get_or components (before e y) 0) (get_or components c 0) t))),
            together-leads y c (same-components y c d a (eqb→eq (get_or components y 0) (get_or components c 0) s)),
          ))
          (λ s t.
          let p = leads-cases c (before e y) s in
          let q = leads-cases y c t in (
            true-eqb (get_or components y 0) (get_or components c 0) (components-same y c d a (end-together c (before e y) y a b d edge p q)),
            true-eqb (get_or components (before e y) 0) (get_or components c 0) (components-same (before e y) c b a (start-together c (before e y) y a b d edge p q)),
          ))

-- ---- the core

module _ (m : ℕ) (Σ : Alphabet) (n : ℕ) (profiles fairs : List (List ℕ)) (r : ℕ → ℕ → Bool) (some : 1 ≤ n) (reach : Reaches Σ n profiles r) where
  pub core-components : (components sets : List ℕ) (core : List Bool) → Entries n (component_by r) 0 components → AllGathered Σ n (within_component components (label_at n profiles) (look fairs)) sets
      → Entries n (core_in m r components sets) false core → Entries n (core_by m Σ n r (label_at n profiles) (look fairs)) false core
  core-components components sets core h g k = record { entry = λ c l. k.entry c l ∙ ap (λ (A : ℕ). elim (r c c) [ true ↦ all_of m A | false ↦ false ]) (around c l) }
    where
      around : (c : ℕ) → c < n → get_or sets (get_or components c 0) 0 ≡ union_events Σ (λ e. union_below n (via_by r (label_at n profiles) (look fairs) c e))
      around c l =
          g.is (get_or components c 0) ((components-within r h).is c l)
          ∙ union-events-same Σ (λ e. union_below n (within_component components (label_at n profiles) (look fairs) e (get_or components c 0))) (λ e. union_below n (via_by r (label_at n profiles) (look fairs) c e))
          (λ e u. union-same n (within_component components (label_at n profiles) (look fairs) e (get_or components c 0)) (via_by r (label_at n profiles) (look fairs) c e)
          (λ y v. via-within n r reach.via components h (label_at n profiles) (look fairs) c e y l (mod-lt (look profiles e y) some) v (reach.edges e y u v)))
