-- The labels that some continuation has: those from which the edges lead to a label on a closed walk that is fair to every temporal node.
-- Labels are the numbers below n. An edge leads from `before e y` by the event e to y; `fair e y` is the set of the m temporal nodes to which it is fair.
use Rattle.std.specs.Prelude.{Bool, true, false, List, ℕ, eqb}
use Rattle.sequences.specs.Tabulate.{tabulate}
use Rattle.meaning.specs.Traces.{Alphabet}
use Rattle.ltl.specs.Sets.{on, set_below, some_below, every_below, union_below, some_event, union_events}
use Rattle.ltl.specs.Closure.{row, closure}

-- from x the rows lead to y, or we are there
abbrev pub leads : List ℕ → ℕ → ℕ → Bool
leads rows x y = elim (eqb x y) [ true ↦ true | false ↦ on (row rows x) y ]

module _ (Σ : Alphabet) (n : ℕ) (before : ℕ → ℕ → ℕ) where
  -- the labels to which an edge leads from x
  abbrev pub edge_row : ℕ → ℕ
  edge_row x = set_below n (λ y. some_event Σ (λ e. eqb (before e y) x))

  abbrev pub edge_rows : List ℕ
  edge_rows = tabulate n edge_row

-- from x the rows lead to c, and it is in the core
abbrev pub leads_to_core : List ℕ → ℕ → ℕ → ℕ → Bool
leads_to_core rows core x c = elim (on core c) [ true ↦ leads rows x c | false ↦ false ]

abbrev pub leading_to : ℕ → List ℕ → ℕ → ℕ
leading_to n rows core = set_below n (λ x. some_below n (leads_to_core rows core x))

-- the m temporal nodes are all in A
abbrev pub all_of : ℕ → ℕ → Bool
all_of m A = every_below m (λ j. on A j)

module _ (Σ : Alphabet) (n : ℕ) (before fair : ℕ → ℕ → ℕ) where
  -- the temporal nodes to which the edge by e to y is fair, if it is on a closed walk through c
  abbrev pub fair_via : List ℕ → ℕ → ℕ → ℕ → ℕ
  fair_via rows c e y = elim (leads rows c (before e y)) [ true ↦ elim (leads rows y c) [ true ↦ fair e y | false ↦ 0 ] | false ↦ 0 ]

  -- those to which some edge on a closed walk through c is fair
  abbrev pub fair_around : List ℕ → ℕ → ℕ
  fair_around rows c = union_events Σ (λ e. union_below n (fair_via rows c e))

  module _ (m : ℕ) where
    -- c is on a closed walk that is fair to every temporal node
    abbrev pub is_core : List ℕ → ℕ → Bool
    is_core rows c = elim (on (row rows c) c) [ true ↦ all_of m (fair_around rows c) | false ↦ false ]

    abbrev pub core_of : List ℕ → ℕ
    core_of rows = set_below n (is_core rows)

    abbrev pub realizable_by : List ℕ → ℕ
    realizable_by rows = leading_to n rows (core_of rows)

    unfoldable pub realizable : ℕ
    realizable = realizable_by (closure n (edge_rows Σ n before))
