-- The end of the walk, and the same answer for all tables that the arrays hold.
use mathlib.Core.Path.{◌≡◌, sym, ap, ◌∙◌, subst}
use mathlib.Core.Bool.{Bool, cond}
use mathlib.Core.List.{List}
use Prim.Native.Nat.{ℕ, ◌+◌, ◌*◌, ◌^◌}
use native.Mathlib.Omega.{arith}
use lib.ListN.{get_or}
use lib.Dec.{eqb}
use Rattle.std.specs.Prelude.{Option, Some, None}
use Rattle.meaning.specs.Traces.{masked}
use Rattle.ltl.specs.Sets.{on}
use Rattle.ltl.specs.Keys.{Tables, start_key, step_key, empty_key}
use Rattle.walk.specs.Explore.{Explored, within, beyond, explore}
use Rattle.ltl.specs.Arrays.{TablesIn}
use Rattle.profile_sets.specs.Arrays.{set_in, Marked, tables_by, tables_in, Tabled, Steppable}
use Rattle.profile_sets.proofs.Tables.{step-held, marked-to, whole_is, start-same, step_same}
use Rattle.exploration.specs.Answers.{expand_key, explore_keys, class_of, ExploredAs, Explores}
use Rattle.exploration.specs.declared.States.{States}
use Rattle.exploration.proofs.SameSteps.{row_same, explore-same}

-- ---- the row of a key, from its array of bools

pub held-row : {w m n : ℕ} {profiles : List (List ℕ)} {W : ℕ} (mask : ℕ) {A k : ℕ} {held : List Bool} → Steppable w m n profiles W → Marked (2 * n) (on A) held → A ≡ k
    → (keys : List ℕ) → expand_key (tables_by n profiles W) (masked w mask) (set_in held) keys ≡ expand_key (tables_by n profiles W) (masked w mask) k keys
held-row {w} {m} {n} {profiles} {W} mask {A} {k} {held} h marked q keys =
    let t = tables_by n profiles W in
    row_same eqb (step_key t) (step_key t) (start_key t) (masked w mask) 256 (set_in held) A (λ e l. step-held h A e (marked-to (n + n) marked (omega arith)) l) keys
    ∙ ap (λ (x : ℕ). expand_key t (masked w mask) x keys) q

-- ---- the rows and keys of the walk

-- the arrays at other names of the width and of the labels
pub tabled-at : {w w' n n' : ℕ} {profiles : List (List ℕ)} {whole : List Bool} → w ≡ w' → n ≡ n' → Tabled w' n' profiles whole → Tabled w n profiles whole
tabled-at {w} {w'} {n} {n'} {profiles} {whole} p q h =
    subst (λ (v : ℕ). Tabled v n profiles whole) (sym p) (subst (λ (k : ℕ). Tabled w' k profiles whole) (sym q) h)

module _ (P mask : ℕ) {n : ℕ} {t : Tables} {profiles : List (List ℕ)} {whole : List Bool} (h : TablesIn (2 ^ P) n t profiles whole) where
  pub walk_same : explore_keys (tables_in n profiles whole) (masked (2 ^ P) mask) ≡ explore_keys t (masked (2 ^ P) mask)
  walk_same =
      explore-same eqb (step_key (tables_in n profiles whole)) (step_key t) (start_key (tables_in n profiles whole)) (masked (2 ^ P) mask) 256 (step_same h)
      ∙ ap (λ (k : ℕ). explore eqb (step_key t) k (masked (2 ^ P) mask) 256) (start-same h)

  class_same : (k : ℕ) → class_of (tables_in n profiles whole) k ≡ class_of t k
  class_same k = ap (λ (A : ℕ). cond (empty_key k) 2 (cond (eqb k A) 1 0)) (whole_is h)

  -- the answer holds at the tables themselves
  pub explored-same : (r : Option States) → Explores P mask (tables_in n profiles whole) r → Explores P mask t r
  explored-same r a =
      subst (λ (x : Explored ℕ (List (List ℕ))). ExploredAs P t x r) walk_same (go (explore_keys (tables_in n profiles whole) (masked (2 ^ P) mask)) r a)
    where
      go : (m : Explored ℕ (List (List ℕ))) (r : Option States) → ExploredAs P (tables_in n profiles whole) m r → ExploredAs P t m r
      go (within keys states) (Some s) c = record {
        count = c.count;
        successors = c.successors;
        class = λ s l. c.class s l ∙ class_same (get_or keys s (start_key (tables_in n profiles whole))) ∙ ap (λ (z : ℕ). class_of t (get_or keys s z)) (start-same h);
        rows_long = c.rows_long;
        classes_long = c.classes_long;
      }
      go (within keys states) None c = c
      go (beyond keys k) (Some s) c = c
      go (beyond keys k) None c = c
