-- The labels that some continuation has, as crate ltl finds them, over a relation between labels instead of its rows.
use Rattle.std.specs.Prelude.{◌≡◌, Bool, true, false, ◌&&◌, List, ℕ, ◌<◌, get_or, eqb}
use Rattle.std.specs.Int.Bits.{bit_or}
use Rattle.sequences.specs.Tabulate.{least_below}
use Rattle.meaning.specs.Traces.{Alphabet}
use Rattle.ltl.specs.Sets.{some_below, union_below, union_events}
use Rattle.ltl.specs.Realizable.{all_of}

-- ---- the core, and what leads to it

abbrev pub leads_by : (ℕ → ℕ → Bool) → ℕ → ℕ → Bool
leads_by r x y = elim (eqb x y) [ true ↦ true | false ↦ r x y ]

-- the set of temporal nodes to which the edge by e to y is fair, if it is on a closed walk through c
abbrev pub via_by : (ℕ → ℕ → Bool) → (ℕ → ℕ → ℕ) → (ℕ → ℕ → ℕ) → ℕ → ℕ → ℕ → ℕ
via_by r before fair c e y = elim (leads_by r c (before e y)) [ true ↦ elim (leads_by r y c) [ true ↦ fair e y | false ↦ 0 ] | false ↦ 0 ]

abbrev pub around_by : Alphabet → ℕ → (ℕ → ℕ → Bool) → (ℕ → ℕ → ℕ) → (ℕ → ℕ → ℕ) → ℕ → ℕ
around_by Σ n r before fair c = union_events Σ (λ e. union_below n (via_by r before fair c e))

abbrev pub core_by : ℕ → Alphabet → ℕ → (ℕ → ℕ → Bool) → (ℕ → ℕ → ℕ) → (ℕ → ℕ → ℕ) → ℕ → Bool
core_by m Σ n r before fair c = elim (r c c) [ true ↦ all_of m (around_by Σ n r before fair c) | false ↦ false ]

-- ---- components: labels that all lead to each other

abbrev pub both_ways : (ℕ → ℕ → Bool) → ℕ → ℕ → Bool
both_ways r x c = r x c && r c x

-- the component of c, by its first label
abbrev pub component_by : (ℕ → ℕ → Bool) → ℕ → ℕ
component_by r c = least_below c (λ x. both_ways r x c)

pub record Within (n : ℕ) (components : List ℕ) : Type 0 where
  pub is : (y : ℕ) → y < n → get_or components y 0 < n

-- the set of temporal nodes to which the edge by e to y is fair, if both its ends are in the component p
abbrev pub within_component : List ℕ → (ℕ → ℕ → ℕ) → (ℕ → ℕ → ℕ) → ℕ → ℕ → ℕ → ℕ
within_component components before fair e p y =
    elim (eqb (get_or components y 0) p) [ true ↦ elim (eqb (get_or components (before e y) 0) p) [ true ↦ fair e y | false ↦ 0 ] | false ↦ 0 ]

-- the sets that the labels below w give to each p below n, added to those before
pub record Gathered (w n : ℕ) (f : ℕ → ℕ → ℕ) (old new : List ℕ) : Type 0 where
  pub is : (p : ℕ) → p < n → get_or new p 0 ≡ bit_or (union_below w (f p)) (get_or old p 0)

-- the sets that the events that can happen and n labels give to each p below n
pub record AllGathered (Σ : Alphabet) (n : ℕ) (f : ℕ → ℕ → ℕ → ℕ) (sets : List ℕ) : Type 0 where
  pub is : (p : ℕ) → p < n → get_or sets p 0 ≡ union_events Σ (λ e. union_below n (f e p))

-- c is on a closed walk, and all temporal nodes are in the set of its component
abbrev pub core_in : ℕ → (ℕ → ℕ → Bool) → List ℕ → List ℕ → ℕ → Bool
core_in m r components sets c = elim (r c c) [ true ↦ all_of m (get_or sets (get_or components c 0) 0) | false ↦ false ]

abbrev pub to_core_by : (ℕ → ℕ → Bool) → (ℕ → Bool) → ℕ → ℕ → Bool
to_core_by r core x c = elim (core c) [ true ↦ leads_by r x c | false ↦ false ]

abbrev pub realizable_by : ℕ → (ℕ → ℕ → Bool) → (ℕ → Bool) → ℕ → Bool
realizable_by n r core x = some_below n (to_core_by r core x)
