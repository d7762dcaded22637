-- Moore's partition refinement on lists: states are put together that no word tells apart. A group is named by its least state.
use Rattle.std.specs.Prelude.{◌≡◌, ◌≢◌, List, [], Bool, true, false, cond, ℕ, zero, suc, ◌≤◌, ◌<◌, get_or, eqb}
use Rattle.sequences.specs.Tabulate.{tabulate, all_below, least_below}
use Rattle.meaning.specs.Traces.{Alphabet, Event, Word}
use Rattle.meaning.specs.Monitors.{Monitor, follow}
use Rattle.meaning.specs.TableFiles.{verdict_of}

-- the successor of state s at event e, where rows has a row of successors for each state
abbrev pub entry : List (List ℕ) → ℕ → ℕ → ℕ
entry rows s e = get_or (get_or rows s []) e 0

-- a machine that is not reduced: n states, of which 0 is the start; classes has for each state 0 (neither), 1 (satisfied) or 2 (violated)
abbrev pub machine : ℕ → List (List ℕ) → List ℕ → Monitor
machine n rows classes = record {
  states = n;
  start = 0;
  verdict = λ s. verdict_of (get_or classes s 0);
  next = λ s e. entry rows s e;
}

pub record Machine (Σ : Alphabet) (n : ℕ) (rows : List (List ℕ)) (classes : List ℕ) : Type 0 where
  pub some : 0 < n
  pub inside : (s e : ℕ) → s < n → Event Σ e → entry rows s e < n
  pub class : (s : ℕ) → s < n → get_or classes s 0 ≤ 2

-- states i and j are in one group
abbrev pub together : List ℕ → ℕ → ℕ → Bool
together group i j = eqb (get_or group i 0) (get_or group j 0)

-- i is the least of its group
abbrev pub leads : List ℕ → ℕ → Bool
leads group i = eqb (get_or group i 0) i

-- p holds at every event that can happen
abbrev pub all_events : Alphabet → (ℕ → Bool) → Bool
all_events Σ p = all_below Σ.width (λ e. let r = p e in cond (Σ.possible e) r true)

-- i and j are in one group, and so are their successors at each event
abbrev pub same_step : Alphabet → List (List ℕ) → List ℕ → ℕ → ℕ → Bool
same_step Σ rows group i j =
    let r = all_events Σ (λ e. together group (entry rows i e) (entry rows j e)) in
    cond (together group i j) r false

-- each state with the least that has its class
unfoldable pub first_groups : ℕ → List ℕ → List ℕ
first_groups n classes = tabulate n (λ i. least_below i (λ j. together classes j i))

-- one round
unfoldable pub next_groups : Alphabet → ℕ → List (List ℕ) → List ℕ → List ℕ
next_groups Σ n rows group = tabulate n (λ i. least_below i (λ j. same_step Σ rows group j i))

abbrev pub same_below : ℕ → List ℕ → List ℕ → Bool
same_below n a b = all_below n (λ i. eqb (get_or a i 0) (get_or b i 0))

-- rounds until one changes nothing, k at most
unfoldable pub rounds : ℕ → Alphabet → ℕ → List (List ℕ) → List ℕ → List ℕ
rounds zero Σ n rows group = group
rounds (suc k) Σ n rows group =
    let next = next_groups Σ n rows group in
    let r = rounds k Σ n rows next in
    cond (same_below n next group) group r

-- for each state the least of its group; n rounds are enough
unfoldable pub grouping : Alphabet → ℕ → List (List ℕ) → List ℕ → List ℕ
grouping Σ n rows classes = rounds n Σ n rows (first_groups n classes)

-- ---- what is shown of it
-- a word after which the classes of two states differ
pub record Differ (Σ : Alphabet) (n : ℕ) (rows : List (List ℕ)) (classes : List ℕ) (s t : ℕ) : Type 0 where
  pub by : List ℕ
  pub word : Word Σ by
  pub differ : get_or classes (follow (machine n rows classes) s by) 0 ≢ get_or classes (follow (machine n rows classes) t by) 0

-- each state has the least of its group; states of one group have the same class, and states of two groups are told apart by a word
pub record Grouped (Σ : Alphabet) (n : ℕ) (rows : List (List ℕ)) (classes group : List ℕ) : Type 0 where
  pub least : (i : ℕ) → i < n → get_or group i 0 ≤ i
  pub own : (i : ℕ) → i < n → get_or group (get_or group i 0) 0 ≡ get_or group i 0
  pub class : (i j : ℕ) → i < n → j < n → get_or group i 0 ≡ get_or group j 0 → get_or classes i 0 ≡ get_or classes j 0
  pub apart : (i j : ℕ) → i < n → j < n → get_or group i 0 ≢ get_or group j 0 → Differ Σ n rows classes i j

-- states of one group have their successors in one group
pub record Stable (Σ : Alphabet) (n : ℕ) (rows : List (List ℕ)) (group : List ℕ) : Type 0 where
  pub keeps : (i j : ℕ) → i < n → j < n → get_or group i 0 ≡ get_or group j 0 → (e : ℕ) → Event Σ e → get_or group (entry rows i e) 0 ≡ get_or group (entry rows j e) 0
