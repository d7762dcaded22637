-- What the code finds over a matrix is the set of labels that crate ltl finds over its rows.
use mathlib.Core.Path.{◌≡◌, sym, ap, ap₂, ◌∙◌}
use mathlib.Core.Bool.{Bool, true, false}
use mathlib.Core.List.{List}
use Prim.Native.Nat.{ℕ, ◌≤◌, ◌<◌}
use native.Mathlib.Nat.{le_refl, mod-lt}
use lib.ListN.{get_or}
use lib.Dec.{eqb}
use Rattle.meaning.specs.Traces.{Alphabet}
use Rattle.sequences.proofs.Loops.{get_d-tab}
use Rattle.ltl.specs.Sets.{on, some_below, union_below, some_event}
use Rattle.ltl.specs.Closure.{closure}
use Rattle.ltl.specs.Realizable.{edge_row, edge_rows, leads_to_core, is_core, core_of, realizable, all_of}
use Rattle.ltl.specs.Residuals.{before}
use Rattle.ltl.specs.Keys.{look}
use Rattle.ltl.proofs.Sets.{on-set}
use Rattle.valuation.specs.Entries.{Entries}
use Rattle.relations.specs.Relations.{entry, Matrix, label_at, edge, closed}
use Rattle.realizability.specs.Core.{leads_by, via_by, core_by, to_core_by, realizable_by}
use Rattle.relations.proofs.Searches.{some_same, union-same, union-events-same}
use Rattle.relations.proofs.Closures.{Agree, related, closed-related}

-- ---- relations that agree on the labels there are

module _ {n : ℕ} {r s : ℕ → ℕ → Bool} (h : Agree n r s) where
  leads-agree : (x y : ℕ) → x < n → y < n → leads_by r x y ≡ leads_by s x y
  leads-agree x y a b = ap (λ (t : Bool). elim (eqb x y) [ true ↦ true | false ↦ t ]) (h.is x y a b)

  module _ (before fair : ℕ → ℕ → ℕ) (within : (e y : ℕ) → before e y < n) where
    via-agree : (c e y : ℕ) → c < n → y < n → via_by r before fair c e y ≡ via_by s before fair c e y
    via-agree c e y a b =
        ap₂ (λ (t u : Bool). elim t [ true ↦ elim u [ true ↦ fair e y | false ↦ 0 ] | false ↦ 0 ]) (leads-agree c (before e y) a (within e y)) (leads-agree y c b a)

    core-agree : (Σ : Alphabet) (m c : ℕ) → c < n → core_by m Σ n r before fair c ≡ core_by m Σ n s before fair c
    core-agree Σ m c a =
        ap₂ (λ (t : Bool) (A : ℕ). elim t [ true ↦ all_of m A | false ↦ false ]) (h.is c c a a)
        (union-events-same Σ (λ e. union_below n (via_by r before fair c e)) (λ e. union_below n (via_by s before fair c e))
        (λ e l. union-same n (via_by r before fair c e) (via_by s before fair c e) (λ y b. via-agree c e y a b)))

  to-core-agree : (f g : ℕ → Bool) → ((c : ℕ) → c < n → f c ≡ g c) → (x c : ℕ) → x < n → c < n → to_core_by r f x c ≡ to_core_by s g x c
  to-core-agree f g k x c a b = ap₂ (λ (t u : Bool). elim t [ true ↦ u | false ↦ false ]) (k c b) (leads-agree x c a b)

  realizable-agree : (f g : ℕ → Bool) → ((c : ℕ) → c < n → f c ≡ g c) → (x : ℕ) → x < n → realizable_by n r f x ≡ realizable_by n s g x
  realizable-agree f g k x a = some_same n (to_core_by r f x) (to_core_by s g x) (λ c b. to-core-agree f g k x c a b)

-- ---- the edges

module _ (Σ : Alphabet) (n : ℕ) (profiles : List (List ℕ)) where
  abbrev edges : List ℕ
  edges = edge_rows Σ n (label_at n profiles)

  edges-related : Agree n (edge Σ n profiles) (related edges)
  edges-related = record {
    is = λ x y a b.
        sym (ap (λ (r : ℕ). on r y) (get_d-tab n (edge_row Σ n (label_at n profiles)) x 0 a)
        ∙ on-set n (λ y. some_event Σ (λ e. eqb (label_at n profiles e y) x)) y b);
  }

  module _ (m : ℕ) (fairs : List (List ℕ)) (rows₀ rows : List ℕ) (core out : List Bool) where
    pub found : 1 ≤ n → Matrix n (edge Σ n profiles) rows₀ → Matrix n (closed n (entry rows₀)) rows → Entries n (core_by m Σ n (entry rows) (label_at n profiles) (look fairs)) false core
        → Entries n (realizable_by n (entry rows) (λ i. get_or core i false)) false out → Entries n (on (realizable Σ n (before n (look profiles)) (look fairs) m)) false out
    unfolding realizable
    found some h₀ h k l = record { entry = λ x a. l.entry x a ∙ realizable-agree agree (λ i. get_or core i false) (on full) same x a ∙ sym (on-set n (λ x. some_below n (leads_to_core reach full x)) x a) }
      where
        reach : List ℕ
        reach = closure n edges

        full : ℕ
        full = core_of Σ n (label_at n profiles) (look fairs) m reach

        first : Agree n (entry rows₀) (related edges)
        first = record { is = λ x y a b. h₀.is x y a b ∙ edges-related.is x y a b }

        agree : Agree n (entry rows) (related reach)
        agree = record { is = λ x y a b. h.is x y a b ∙ (closed-related edges first n (le_refl n)).is x y a b }

        same : (c : ℕ) → c < n → get_or core c false ≡ on full c
        same c a =
            k.entry c a ∙ core-agree agree (label_at n profiles) (look fairs) (λ e y. mod-lt (look profiles e y) some) Σ m c a
            ∙ sym (on-set n (is_core Σ n (label_at n profiles) (look fairs) m reach) c a)
