-- An invariant of the walk: a statement on the keys met, the rows done and the row begun that holds at the start and that each entry and each
-- finished row keeps. It holds where the walk ends, and there each key has its row, or the keys are as many as the limit and one more was met.
use mathlib.Core.Path.{◌≡◌, refl, sym, subst}
use mathlib.Core.List.{List, [], ◌∷◌, ◌++◌}
use mathlib.Core.Bool.{Bool, true, false}
use Prim.Native.Nat.{ℕ, zero, suc, ◌+◌, ◌≤◌, ◌<◌}
use native.Mathlib.Omega.{arith}
use borrow.Author.Tests.{ltb-true, ltb-false}
use lib.ListN.{length, get_or}
use lib.Dec.{T, ltb}
use Rattle.sequences.specs.Tabulate.{least_below}
use Rattle.sequences.proofs.Pigeonhole.{Least, least-below}
use Rattle.meaning.specs.Traces.{Alphabet}
use Rattle.walk.specs.Explore.{Explored, within, beyond, locate, enter, visit, expand_from, expand, explore_from, explore}
use Rattle.walk.proofs.Snoc.{snoc-length, snoc_old}

-- the row of state `length rows` is begun, and its next event, `length row`, can happen
pub record Going {Key : Type 0} (Σ : Alphabet) (keys : List Key) (rows : List (List ℕ)) (row : List ℕ) : Type 0 where
  pub state : length rows < length keys
  pub event : length row < Σ.width
  pub possible : T (Σ.possible (length row))

-- the key to which that event leads
abbrev pub reached : {Key : Type 0} (step : Key → ℕ → Key) (start : Key) → List Key → List (List ℕ) → List ℕ → Key
reached step start keys rows row = step (get_or keys (length rows) start) (length row)

-- none of the keys is the same as k
pub record New {Key : Type 0} (same : Key → Key → Bool) (start : Key) (keys : List Key) (k : Key) : Type 0 where
  pub differ : (i : ℕ) → i < length keys → ¬ T (same (get_or keys i start) k)

module _ {Key : Type 0} (same : Key → Key → Bool) (step : Key → ℕ → Key) (start : Key) (Σ : Alphabet) (limit : ℕ) where
  -- the three ways in which a key is entered
  entered : (P : Explored Key ℕ → Type 0) (keys : List Key) (k : Key) → ((i : ℕ) → i < length keys → T (same (get_or keys i start) k) → P (within keys i))
      → (New same start keys k → length keys < limit → P (within (keys ++ (k ∷ [])) (length keys))) → (New same start keys k → limit ≤ length keys → P (beyond keys k)) → P (enter same start limit keys k)
  unfolding enter locate
  entered P keys k met new full = go (ltb i n) refl (ltb n limit) refl
    where
      p : ℕ → Bool
      p j = same (get_or keys j start) k

      n : ℕ
      n = length keys

      i : ℕ
      i = least_below n p

      least : Least n p i
      least = least-below n p

      none : n ≤ i → New same start keys k
      none l = record { differ = λ j m t. subst T (least.before j (omega arith)) t }

      go : (b : Bool) → ltb i n ≡ b → (c : Bool) → ltb n limit ≡ c → P (elim b [ true ↦ within keys i | false ↦ elim c [ true ↦ within (keys ++ (k ∷ [])) n | false ↦ beyond keys k ] ])
      go true e c f = let l : i < n = ltb-true i n e in met i l (subst T (sym (least.here l)) tt)
      go false e true f = new (none (ltb-false i n e)) (ltb-true n limit f)
      go false e false f = full (none (ltb-false i n e)) (ltb-false n limit f)

  -- I holds between the rows, and J within a row
  module _ (I : List Key → List (List ℕ) → Type 0) (J : List Key → List (List ℕ) → List ℕ → Type 0) where
    pub record Kept : Type 0 where
      pub begin : I (start ∷ []) []
      pub open_row : {keys : List Key} {rows : List (List ℕ)} → I keys rows → length rows < length keys → J keys rows []
      pub skip : {keys : List Key} {rows : List (List ℕ)} {row : List ℕ} → J keys rows row → ¬ T (Σ.possible (length row)) → J keys rows (row ++ (0 ∷ []))
      pub meet : {keys : List Key} {rows : List (List ℕ)} {row : List ℕ} → J keys rows row → Going Σ keys rows row
          → (i : ℕ) → i < length keys → T (same (get_or keys i start) (reached step start keys rows row)) → J keys rows (row ++ (i ∷ []))
      pub add : {keys : List Key} {rows : List (List ℕ)} {row : List ℕ} → J keys rows row → Going Σ keys rows row
          → New same start keys (reached step start keys rows row) → J (keys ++ (reached step start keys rows row ∷ [])) rows (row ++ (length keys ∷ []))
      pub close_row : {keys : List Key} {rows : List (List ℕ)} {row : List ℕ} → J keys rows row → length row ≡ Σ.width → I keys (rows ++ (row ∷ []))

    -- all keys have their rows
    pub record Done (keys : List Key) (rows : List (List ℕ)) : Type 0 where
      pub inv : I keys rows
      pub all : length rows ≡ length keys
      pub few : length keys ≤ limit

    -- k was met after as many keys as the limit
    pub record Full (keys : List Key) (k : Key) : Type 0 where
      pub rows : List (List ℕ)
      pub row : List ℕ
      pub inv : J keys rows row
      pub going : Going Σ keys rows row
      pub is : k ≡ reached step start keys rows row
      pub new : New same start keys k
      pub count : length keys ≡ limit

    abbrev pub Ended : Explored Key (List (List ℕ)) → Type 0
    Ended (within keys rows) = Done keys rows
    Ended (beyond keys k) = Full keys k

    -- within the row of the state whose key is `from`
    record During (from : Key) (rows : List (List ℕ)) (keys : List Key) (row : List ℕ) : Type 0 where
      inv : J keys rows row
      state : length rows < length keys
      few : length keys ≤ limit
      key : from ≡ get_or keys (length rows) start

    abbrev Entered : Key → List (List ℕ) → List ℕ → Explored Key ℕ → Type 0
    Entered from rows row (within keys i) = During from rows keys (row ++ (i ∷ []))
    Entered from rows row (beyond keys k) = Full keys k

    abbrev Expanded : Key → List (List ℕ) → Explored Key (List ℕ) → Type 0
    Expanded from rows (within keys row) = During from rows keys row × (length row ≡ Σ.width)
    Expanded from rows (beyond keys k) = Full keys k

    module _ (K : Kept) where
      visit-ends : (from : Key) (rows : List (List ℕ)) (keys : List Key) (row : List ℕ) → During from rows keys row → length row < Σ.width
          → Entered from rows row (visit same step start Σ limit from (length row) keys)
      unfolding visit
      visit-ends from rows keys row d l = go (Σ.possible (length row)) refl
        where
          go : (b : Bool) → Σ.possible (length row) ≡ b → Entered from rows row (elim b [ true ↦ enter same start limit keys (step from (length row)) | false ↦ within keys 0 ])
          go false q = record { inv = K.skip d.inv (λ t. subst T q t); state = d.state; few = d.few; key = d.key }
          go true q =
              let g : Going Σ keys rows row = record { state = d.state; event = l; possible = subst T (sym q) tt } in
              subst (λ (f : Key). Entered from rows row (enter same start limit keys (step f (length row)))) (sym d.key) (entered (Entered from rows row) keys (reached step start keys rows row)
              (λ i m t. record { inv = K.meet d.inv g i m t; state = d.state; few = d.few; key = d.key })
              (λ n m. record { inv = K.add d.inv g n; state = rw snoc-length (omega (arith, d.state)); few = rw snoc-length m; key = rw (snoc_old keys (reached step start keys rows row) start (length rows) d.state) d.key })
              (λ n m. record { rows = rows; row = row; inv = d.inv; going = g; is = refl; new = n; count = omega (arith, d.few) }))

      expand-ends : (j e : ℕ) (from : Key) (rows : List (List ℕ)) (keys : List Key) (row : List ℕ) → During from rows keys row → e ≡ length row → e + j ≡ Σ.width
          → Expanded from rows (expand_from same step start Σ limit j e from keys row)
      unfolding expand_from
      expand-ends zero e from rows keys row d q r = (d, omega arith)
      expand-ends (suc j) e from rows keys row d q r = go (visit same step start Σ limit from e keys) (rw q (visit-ends from rows keys row d (omega arith))) (λ keys' row'. expand-ends j (suc e) from rows keys' row')
        where
          go : (v : Explored Key ℕ) → Entered from rows row v
              → ((keys' : List Key) (row' : List ℕ) → During from rows keys' row' → suc e ≡ length row' → suc e + j ≡ Σ.width → Expanded from rows (expand_from same step start Σ limit j (suc e) from keys' row'))
              → Expanded from rows (elim v [ within keys' i ↦ expand_from same step start Σ limit j (suc e) from keys' (row ++ (i ∷ [])) | beyond keys' k ↦ beyond keys' k ])
          go (within keys' i) h ih = ih keys' (row ++ (i ∷ [])) h (rw snoc-length (omega arith)) (omega arith)
          go (beyond keys' k) h ih = h

      turns-end : (turns i : ℕ) (keys : List Key) (rows : List (List ℕ)) → I keys rows → length rows ≡ i → i ≤ length keys → length keys ≤ limit → turns + i ≡ limit
          → Ended (explore_from same step start Σ limit turns i keys rows)
      unfolding explore_from expand
      turns-end zero i keys rows h q l m t = record { inv = h; all = omega arith; few = m }
      turns-end (suc turns) i keys rows h q l m t = go (ltb i (length keys)) refl (λ keys' rows'. turns-end turns (suc i) keys' rows')
        where
          Next : Type 0
          Next = (keys' : List Key) (rows' : List (List ℕ)) → I keys' rows' → length rows' ≡ suc i → suc i ≤ length keys' → length keys' ≤ limit → turns + suc i ≡ limit
              → Ended (explore_from same step start Σ limit turns (suc i) keys' rows')

          on : Next → (v : Explored Key (List ℕ)) → Expanded (get_or keys i start) rows v
              → Ended (elim v [ within keys' row ↦ explore_from same step start Σ limit turns (suc i) keys' (rows ++ (row ∷ [])) | beyond keys' k ↦ beyond keys' k ])
          on ih (within keys' row) (d, w) = ih keys' (rows ++ (row ∷ [])) (K.close_row d.inv w) (rw snoc-length (omega arith)) (omega (arith, d.state)) d.few (omega arith)
          on ih (beyond keys' k) f = f

          go : (b : Bool) → ltb i (length keys) ≡ b → Next
              → Ended (elim b [
                | true ↦ elim (expand same step start Σ limit (get_or keys i start) keys) [ within keys' row ↦ explore_from same step start Σ limit turns (suc i) keys' (rows ++ (row ∷ [])) | beyond keys' k ↦ beyond keys' k ]
                | false ↦ within keys rows
              ])
          go true e ih =
              let o : length rows < length keys = omega (arith, ltb-true i (length keys) e) in
              on ih (expand same step start Σ limit (get_or keys i start) keys) (expand-ends Σ.width 0 (get_or keys i start) rows keys [] (record { inv = K.open_row h o; state = o; few = m; key = rw q }) refl (omega arith))
          go false e ih = record { inv = h; all = omega (arith, ltb-false i (length keys) e); few = m }

      pub explored : 0 < limit → Ended (explore same step start Σ limit)
      unfolding explore
      explored l = turns-end limit 0 (start ∷ []) [] K.begin refl (omega arith) l (omega arith)
