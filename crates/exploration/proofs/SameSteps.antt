-- Two keys that step alike have the same row, and two step functions that agree on the events below the width lead to the same walk.
use mathlib.Core.Path.{◌≡◌, refl, ap, ◌∙◌}
use mathlib.Core.Bool.{Bool, true, false}
use mathlib.Core.List.{List, [], ◌∷◌, ◌++◌}
use Prim.Native.Nat.{ℕ, zero, suc, ◌+◌, ◌≤◌, ◌<◌}
use native.Mathlib.Omega.{arith}
use lib.ListN.{length, get_or}
use lib.Dec.{ltb}
use Rattle.meaning.specs.Traces.{Alphabet}
use Rattle.walk.specs.Explore.{Explored, within, beyond, enter, visit, expand_from, expand, explore_from, explore}

-- what follows an answer within the limit
abbrev after : {Key A B : Type 0} → (List Key → A → Explored Key B) → Explored Key A → Explored Key B
after f v = elim v [ within keys a ↦ f keys a | beyond keys k ↦ beyond keys k ]

after_same : {Key A B : Type 0} (f g : List Key → A → Explored Key B) → ((keys : List Key) (a : A) → f keys a ≡ g keys a) → {v v' : Explored Key A} → v ≡ v' → after f v ≡ after g v'
after_same {Key} {A} f g h {v} {v'} e = ap (after f) e ∙ go v'
  where
    go : (x : Explored Key A) → after f x ≡ after g x
    go (within keys a) = h keys a
    go (beyond keys k) = refl

-- the rows of two keys that step alike
module _ {Key : Type 0} (same : Key → Key → Bool) (step step' : Key → ℕ → Key) (start : Key) (Σ : Alphabet) (limit : ℕ) (from from' : Key)
    (agree : (e : ℕ) → e < Σ.width → step from e ≡ step' from' e) where
  visit-same : (e : ℕ) (keys : List Key) → e < Σ.width → visit same step start Σ limit from e keys ≡ visit same step' start Σ limit from' e keys
  unfolding visit
  visit-same e keys l = ap (λ (k : Key). elim (Σ.possible e) [ true ↦ enter same start limit keys k | false ↦ within keys 0 ]) (agree e l)

  entries-same : (j e : ℕ) (keys : List Key) (row : List ℕ) → e + j ≤ Σ.width
      → expand_from same step start Σ limit j e from keys row ≡ expand_from same step' start Σ limit j e from' keys row
  unfolding expand_from
  entries-same zero e keys row l = refl
  entries-same (suc j) e keys row l =
      after_same (λ keys' i. expand_from same step start Σ limit j (suc e) from keys' (row ++ (i ∷ [])))
      (λ keys' i. expand_from same step' start Σ limit j (suc e) from' keys' (row ++ (i ∷ [])))
      (λ keys' i. entries-same j (suc e) keys' (row ++ (i ∷ [])) (omega arith))
      (visit-same e keys (omega arith))

  pub row_same : (keys : List Key) → expand same step start Σ limit from keys ≡ expand same step' start Σ limit from' keys
  unfolding expand
  row_same keys = entries-same Σ.width 0 keys [] (omega arith)

module _ {Key : Type 0} (same : Key → Key → Bool) (step step' : Key → ℕ → Key) (start : Key) (Σ : Alphabet) (limit : ℕ)
    (agree : (k : Key) (e : ℕ) → e < Σ.width → step k e ≡ step' k e) where
  rows_same : (turns i : ℕ) (keys : List Key) (rows : List (List ℕ)) → explore_from same step start Σ limit turns i keys rows ≡ explore_from same step' start Σ limit turns i keys rows
  unfolding explore_from
  rows_same zero i keys rows = refl
  rows_same (suc turns) i keys rows =
      ap (λ (x : Explored Key (List (List ℕ))). elim (ltb i (length keys)) [ true ↦ x | false ↦ within keys rows ])
      (after_same (λ keys' row. explore_from same step start Σ limit turns (suc i) keys' (rows ++ (row ∷ [])))
      (λ keys' row. explore_from same step' start Σ limit turns (suc i) keys' (rows ++ (row ∷ [])))
      (λ keys' row. rows_same turns (suc i) keys' (rows ++ (row ∷ [])))
      (row_same same step step' start Σ limit (get_or keys i start) (get_or keys i start) (agree (get_or keys i start)) keys))

  pub explore-same : explore same step start Σ limit ≡ explore same step' start Σ limit
  unfolding explore
  explore-same = rows_same limit 0 (start ∷ []) []
