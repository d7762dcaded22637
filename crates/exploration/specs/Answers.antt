-- What the answers of the walk's functions say of the model.
use Rattle.std.specs.Prelude.{◌≡◌, cond, Option, Some, None, List, [], ℕ, ◌^◌, ◌<◌, length, get_or, eqb}
use Rattle.meaning.specs.Traces.{Alphabet, masked}
use Rattle.ltl.specs.Keys.{Tables, start_key, step_key, empty_key, full_key}
use Rattle.walk.specs.Explore.{Explored, within, beyond, visit, expand, explore}
use Rattle.profile_sets.specs.Arrays.{tables_by}
use Rattle.profile_sets.specs.declared.Steps.{Steps}
use Rattle.key_slots.specs.Answers.{Beyond, EnteredAs}
use Rattle.exploration.specs.Rows.{row_in}
use Rattle.exploration.specs.declared.States.{States}

-- the tables and the events that keys are stepped by
abbrev pub stepped : Steps → Tables
stepped s = tables_by s.labels s.profiles.now s.full

abbrev pub happening : Steps → Alphabet
happening s = masked s.events s.mask

-- the walk over the keys of the tables, with the events that can happen and at most 256 keys
abbrev pub visit_key : Tables → Alphabet → ℕ → ℕ → List ℕ → Explored ℕ ℕ
visit_key t Σ k e keys = visit eqb (step_key t) (start_key t) Σ 256 k e keys

abbrev pub expand_key : Tables → Alphabet → ℕ → List ℕ → Explored ℕ (List ℕ)
expand_key t Σ k keys = expand eqb (step_key t) (start_key t) Σ 256 k keys

abbrev pub explore_keys : Tables → Alphabet → Explored ℕ (List (List ℕ))
explore_keys t Σ = explore eqb (step_key t) (start_key t) Σ 256

-- the class of a key: 2 no continuation satisfies the rule, 1 every one does, 0 neither
abbrev pub class_of : Tables → ℕ → ℕ
class_of t k = cond (empty_key k) 2 (cond (full_key t k) 1 0)

-- the same, from the key of all continuations
abbrev pub class_by : ℕ → ℕ → ℕ
class_by full k = cond (eqb k 0) 2 (cond (eqb k full) 1 0)

-- ---- the answers of the functions below `explore`

-- the entry for the event e in the row of the key k, however many events there are
abbrev pub Visits : Tables → ℕ → ℕ → ℕ → List ℕ → List ℕ → Option ℕ → Type 0
Visits t mask k e ks keys r = (width : ℕ) → EnteredAs (visit_key t (masked width mask) k e ks) keys r

abbrev pub GrownAs : Explored ℕ (List ℕ) → ℕ → List ℕ → Option (List ℕ) → Type 0
GrownAs m width keys (Some row) = m ≡ within keys (row_in width row)
GrownAs m width keys None = Beyond m

-- the walk closed with these keys as states, whose rows the array has
pub record Ended (m : Explored ℕ (List (List ℕ))) (width : ℕ) (keys : List ℕ) (rows : List (List ℕ)) : Type 0 where
  pub states : List (List ℕ)
  pub is : m ≡ within keys states
  pub long : length rows ≡ 256
  pub successors : (s e : ℕ) → s < length keys → e < width → get_or (get_or rows s []) e 0 ≡ get_or (get_or states s []) e 0

abbrev pub WalkedAs : Explored ℕ (List (List ℕ)) → ℕ → List ℕ → Option (List (List ℕ)) → Type 0
WalkedAs m width keys (Some rows) = Ended m width keys rows
WalkedAs m width keys None = Beyond m

-- the classes of the keys, by the key of all continuations
pub record Classed (full : ℕ) (keys classes : List ℕ) : Type 0 where
  pub long : length classes ≡ 256
  pub class : (s : ℕ) → s < length keys → get_or classes s 0 ≡ class_by full (get_or keys s 0)

-- ---- the answer of `explore`

-- the model's walk closed with these keys and rows
pub record ClosedAs (P : ℕ) (t : Tables) (keys : List ℕ) (states : List (List ℕ)) (n : ℕ) (rows : List (List ℕ)) (classes : List ℕ) : Type 0 where
  pub count : n ≡ length keys
  pub successors : (s e : ℕ) → s < length keys → e < 2 ^ P → get_or (get_or rows s []) e 0 ≡ get_or (get_or states s []) e 0
  pub class : (s : ℕ) → s < length keys → get_or classes s 0 ≡ class_of t (get_or keys s (start_key t))
  pub rows_long : length rows ≡ 256
  pub classes_long : length classes ≡ 256

-- by cases of the model's walk
abbrev pub ExploredAs : ℕ → Tables → Explored ℕ (List (List ℕ)) → Option States → Type 0
ExploredAs P t (within keys states) (Some s) = ClosedAs P t keys states s.count s.rows s.classes
ExploredAs P t (within keys states) None = ⊥
ExploredAs P t (beyond keys k) (Some s) = ⊥
ExploredAs P t (beyond keys k) None = Unit {0}

-- the walk over the keys of the tables, at P signals, with the events of the mask
abbrev pub Explores : ℕ → ℕ → Tables → Option States → Type 0
Explores P mask t r = ExploredAs P t (explore_keys t (masked (2 ^ P) mask)) r
