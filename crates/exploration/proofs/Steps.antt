-- The turns of the walk's loops: what the arrays hold is what the model has.
use mathlib.Core.Path.{◌≡◌, sym, ap, ap₂, ◌∙◌, subst}
use mathlib.Core.Bool.{Bool, true, false}
use mathlib.Core.List.{List, [], ◌∷◌, ◌++◌}
use Prim.Native.Nat.{ℕ, suc, ◌+◌, ◌-◌, ◌≤◌, ◌<◌}
use native.Mathlib.Numerals.{add-one}
use native.Mathlib.Omega.{arith}
use lib.ListN.{length, get_or, set, length-set}
use lib.Seq.{get_or-set_same, get_or-set_other}
use lib.Dec.{eqb}
use Rattle.std.specs.Prelude.{Option, Some}
use Rattle.std.proofs.lemmas.List.{get_or_default}
use Rattle.meaning.specs.Traces.{Alphabet, masked}
use Rattle.sequences.specs.Tabulate.{tabulate}
use Rattle.sequences.proofs.Loops.{get_d-tab, tabulate-snoc}
use Rattle.sequences.proofs.Pointwise.{tabulate-same}
use Rattle.ltl.specs.Sets.{on}
use Rattle.ltl.specs.Keys.{Tables, start_key, step_key}
use Rattle.walk.specs.Explore.{Explored, within, enter, visit, expand_from, expand, explore_from, explore}
use Rattle.walk.proofs.Steps.{visit-possible, expand-next, expand-over, expand-end, explore-next, explore-over, explore-end}
use Rattle.key_slots.specs.Answers.{Beyond, EnteredAs, Enters}
use Rattle.exploration.specs.Rows.{row_in, rows_in}
use Rattle.exploration.specs.Answers.{visit_key, expand_key, explore_keys, Visits, Ended}

-- the front of an array, read by f, with one element more stored behind it
front-more : {A B : Type 0} (f : A → B) (z : A) (xs : List A) (n : ℕ) (x : A) → n < length xs
    → tabulate (n + 1) (λ i. f (get_or (set xs n x) i z)) ≡ tabulate n (λ i. f (get_or xs i z)) ++ (f x ∷ [])
front-more {A} {B} f z xs n x l =
    ap (λ (k : ℕ). tabulate k (λ i. f (get_or (set xs n x) i z))) (add-one n)
    ∙ tabulate-snoc n (λ i. f (get_or (set xs n x) i z))
    ∙ ap₂ (λ (ys : List B) (y : B). ys ++ (y ∷ []))
    (tabulate-same n (λ i. f (get_or (set xs n x) i z)) (λ i. f (get_or xs i z)) (λ i m. ap f (get_or-set_other xs n i x z (λ e. absurd (omega arith)))))
    (ap f (get_or-set_same xs n x z l))

-- ---- one entry

-- an event that cannot happen has 0
visit-impossible : {Key : Type 0} (same : Key → Key → Bool) (step : Key → ℕ → Key) (start : Key) (Σ : Alphabet) (limit : ℕ) (from : Key) (e : ℕ) (keys : List Key) → Σ.possible e ≡ false
    → visit same step start Σ limit from e keys ≡ within keys 0
unfolding visit
visit-impossible same step start Σ limit from e keys p = rw (p, visit)

module _ (t : Tables) (mask from e : ℕ) (keys : List ℕ) where
  -- the event can happen, and k is the key after it
  pub visited : on mask e ≡ true → (k : ℕ) → k ≡ step_key t from e → (keys' : List ℕ) (answer : Option ℕ) → Enters keys k keys' answer → Visits t mask from e keys keys' answer
  visited p k next keys' answer a w =
      subst (λ (m : Explored ℕ ℕ). EnteredAs m keys' answer)
      (sym (visit-possible eqb (step_key t) (start_key t) (masked w mask) 256 from e keys p ∙ ap (enter eqb (start_key t) 256 keys) (sym next)))
      (a (start_key t))

  -- it cannot
  pub skipped : on mask e ≡ false → Visits t mask from e keys keys (Some 0)
  skipped p w = (visit-impossible eqb (step_key t) (start_key t) (masked w mask) 256 from e keys p, omega arith)

-- ---- one row

module _ (t : Tables) (Σ : Alphabet) where
  abbrev w : ℕ
  w = Σ.width

  abbrev from_event : ℕ → ℕ → ℕ → List ℕ → List ℕ → Explored ℕ (List ℕ)
  from_event j e from keys row = expand_from eqb (step_key t) (start_key t) Σ 256 j e from keys row

  -- the row of the key `from`, of which the entries below e are stored; m is what the model comes to
  pub record Expanding (m : Explored ℕ (List ℕ)) (from e : ℕ) (keys row : List ℕ) : Type 0 where
    pub long : length row ≡ 16
    pub upto : e ≤ w
    pub is : from_event (w - e) e from keys (row_in e row) ≡ m

  pub expanding-none : {keys row : List ℕ} (from : ℕ) → length row ≡ 16 → Expanding (expand_key t Σ from keys) from 0 keys row
  unfolding expand
  expanding-none {keys} {row} from l = record { long = l; upto = omega arith; is = ap (λ (j : ℕ). from_event j 0 from keys []) (omega arith) }

  module _ {m : Explored ℕ (List ℕ)} {from e : ℕ} {keys row : List ℕ} (h : Expanding m from e keys row) where
    module _ (l : e < w) where
      one_fewer : w - e ≡ suc (w - (e + 1))
      one_fewer = omega arith

      unrolled : from_event (suc (w - (e + 1))) e from keys (row_in e row) ≡ m
      unrolled = ap (λ (j : ℕ). from_event j e from keys (row_in e row)) (sym one_fewer) ∙ h.is

      pub expanding-more : w ≤ 16 → {keys' : List ℕ} {i : ℕ} → visit_key t Σ from e keys ≡ within keys' i → Expanding m from (e + 1) keys' (set row e i)
      expanding-more few {keys'} {i} r = record {
        long = length-set row e i ∙ h.long;
        upto = omega arith;
        is = ap₂ (λ (a : ℕ) (x : List ℕ). from_event (w - (e + 1)) a from keys' x) (add-one e) (front-more (λ (x : ℕ). x) 0 row e i (omega (arith, h.long)))
            ∙ sym (expand-next eqb (step_key t) (start_key t) Σ 256 (w - (e + 1)) e from keys (row_in e row) r) ∙ unrolled;
      }

      pub expanding-over : Beyond (visit_key t Σ from e keys) → Beyond m
      expanding-over r = record {
        keys = r.keys;
        key = r.key;
        is = sym unrolled ∙ expand-over eqb (step_key t) (start_key t) Σ 256 (w - (e + 1)) e from keys (row_in e row) r.is;
      }

    pub expanding-all : w ≤ e → m ≡ within keys (row_in w row)
    expanding-all l =
        let p : e ≡ w = omega (arith, h.upto) in
        let q : w - e ≡ 0 = omega arith in
        sym h.is ∙ ap (λ (j : ℕ). from_event j e from keys (row_in e row)) q
        ∙ expand-end eqb (step_key t) (start_key t) Σ 256 e from keys (row_in e row) ∙ ap (λ (a : ℕ). within keys (row_in a row)) p

  -- ---- the rows

  abbrev from_state : ℕ → ℕ → List ℕ → List (List ℕ) → Explored ℕ (List (List ℕ))
  from_state j i keys rows = explore_from eqb (step_key t) (start_key t) Σ 256 j i keys rows

  -- the walk, of which the rows of the states below i are stored
  pub record Walking (m : Explored ℕ (List (List ℕ))) (i : ℕ) (keys : List ℕ) (rows : List (List ℕ)) : Type 0 where
    pub long : length rows ≡ 256
    pub upto : i ≤ 256
    pub is : from_state (256 - i) i keys (rows_in w i rows) ≡ m

  pub walking-none : {keys : List ℕ} {rows : List (List ℕ)} → length rows ≡ 256 → keys ≡ start_key t ∷ [] → Walking (explore_keys t Σ) 0 keys rows
  unfolding explore
  walking-none {keys} {rows} l e = record { long = l; upto = omega arith; is = ap (λ (ks : List ℕ). from_state 256 0 ks []) e }

  module _ {m : Explored ℕ (List (List ℕ))} {i : ℕ} {keys : List ℕ} {rows : List (List ℕ)} (h : Walking m i keys rows) where
    module _ (l : i < length keys) (few : length keys ≤ 256) where
      unrolled-walk : from_state (suc (256 - (i + 1))) i keys (rows_in w i rows) ≡ m
      unrolled-walk = ap (λ (j : ℕ). from_state j i keys (rows_in w i rows)) (omega arith) ∙ h.is

      this_key : get_or keys i (start_key t) ≡ get_or keys i 0
      this_key = get_or_default keys i (start_key t) 0 l

      pub walking-more : {keys' : List ℕ} (row : List ℕ) → expand_key t Σ (get_or keys i 0) keys ≡ within keys' (row_in w row) → Walking m (i + 1) keys' (set rows i row)
      walking-more {keys'} row r = record {
        long = length-set rows i row ∙ h.long;
        upto = omega arith;
        is = ap₂ (λ (a : ℕ) (x : List (List ℕ)). from_state (256 - (i + 1)) a keys' x) (add-one i) (front-more (row_in w) [] rows i row (omega (arith, h.long)))
            ∙ sym (explore-next eqb (step_key t) (start_key t) Σ 256 (256 - (i + 1)) i keys (rows_in w i rows) l
            (ap (λ (k : ℕ). expand_key t Σ k keys) this_key ∙ r)) ∙ unrolled-walk;
      }

      pub walking-over : Beyond (expand_key t Σ (get_or keys i 0) keys) → Beyond m
      walking-over r = record {
        keys = r.keys;
        key = r.key;
        is = sym unrolled-walk ∙ explore-over eqb (step_key t) (start_key t) Σ 256 (256 - (i + 1)) i keys (rows_in w i rows) l
            (ap (λ (k : ℕ). expand_key t Σ k keys) this_key ∙ r.is);
      }

    pub walking-all : length keys ≤ i → Ended m w keys rows
    walking-all l = record {
      states = rows_in w i rows;
      is = sym h.is ∙ explore-end eqb (step_key t) (start_key t) Σ 256 (256 - i) i keys (rows_in w i rows) l;
      long = h.long;
      successors = λ s e a b. sym (ap (λ (x : List ℕ). get_or x e 0) (get_d-tab i (λ s. row_in w (get_or rows s [])) s [] (omega arith)) ∙ get_d-tab w (λ e. get_or (get_or rows s []) e 0) e 0 b);
    }
