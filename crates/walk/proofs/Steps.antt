-- The laws by which code follows the model: what each function of the model comes to in each of its cases.
use mathlib.Core.Path.{◌≡◌, refl}
use mathlib.Core.List.{List, [], ◌∷◌, ◌++◌}
use mathlib.Core.Bool.{Bool, true}
use Prim.Native.Nat.{ℕ, zero, suc, ◌≤◌, ◌<◌}
use borrow.Author.Tests.{lt-ltb, le-ltb}
use lib.ListN.{length, get_or}
use Rattle.meaning.specs.Traces.{Alphabet}
use Rattle.walk.specs.Explore.{within, beyond, locate, enter, visit, expand_from, expand, explore_from}

module _ {Key : Type 0} (same : Key → Key → Bool) (start : Key) (limit : ℕ) (keys : List Key) (k : Key) where
  pub enter-met : locate same start keys k < length keys → enter same start limit keys k ≡ within keys (locate same start keys k)
  unfolding enter
  enter-met l = rw (lt-ltb (locate same start keys k) (length keys) l, enter)

  pub enter-new : length keys ≤ locate same start keys k → length keys < limit → enter same start limit keys k ≡ within (keys ++ (k ∷ [])) (length keys)
  unfolding enter
  enter-new l m = rw (le-ltb (locate same start keys k) (length keys) l, lt-ltb (length keys) limit m, enter)

  pub enter-over : length keys ≤ locate same start keys k → limit ≤ length keys → enter same start limit keys k ≡ beyond keys k
  unfolding enter
  enter-over l m = rw (le-ltb (locate same start keys k) (length keys) l, le-ltb (length keys) limit m, enter)

module _ {Key : Type 0} (same : Key → Key → Bool) (step : Key → ℕ → Key) (start : Key) (Σ : Alphabet) (limit : ℕ) where
  pub visit-possible : (from : Key) (e : ℕ) (keys : List Key) → Σ.possible e ≡ true → visit same step start Σ limit from e keys ≡ enter same start limit keys (step from e)
  unfolding visit
  visit-possible from e keys p = rw (p, visit)

  pub expand-next : (j e : ℕ) (from : Key) (keys : List Key) (row : List ℕ) {keys' : List Key} {i : ℕ} → visit same step start Σ limit from e keys ≡ within keys' i
      → expand_from same step start Σ limit (suc j) e from keys row ≡ expand_from same step start Σ limit j (suc e) from keys' (row ++ (i ∷ []))
  unfolding expand_from
  expand-next j e from keys row q = rw (q, expand_from)

  pub expand-over : (j e : ℕ) (from : Key) (keys : List Key) (row : List ℕ) {keys' : List Key} {k : Key} → visit same step start Σ limit from e keys ≡ beyond keys' k
      → expand_from same step start Σ limit (suc j) e from keys row ≡ beyond keys' k
  unfolding expand_from
  expand-over j e from keys row q = rw (q, expand_from)

  pub expand-end : (e : ℕ) (from : Key) (keys : List Key) (row : List ℕ) → expand_from same step start Σ limit zero e from keys row ≡ within keys row
  unfolding expand_from
  expand-end e from keys row = refl

  pub explore-next : (turns i : ℕ) (keys : List Key) (rows : List (List ℕ)) {keys' : List Key} {row : List ℕ} → i < length keys
      → expand same step start Σ limit (get_or keys i start) keys ≡ within keys' row
      → explore_from same step start Σ limit (suc turns) i keys rows ≡ explore_from same step start Σ limit turns (suc i) keys' (rows ++ (row ∷ []))
  unfolding explore_from
  explore-next turns i keys rows l q = rw (lt-ltb i (length keys) l, q, explore_from)

  pub explore-over : (turns i : ℕ) (keys : List Key) (rows : List (List ℕ)) {keys' : List Key} {k : Key} → i < length keys
      → expand same step start Σ limit (get_or keys i start) keys ≡ beyond keys' k → explore_from same step start Σ limit (suc turns) i keys rows ≡ beyond keys' k
  unfolding explore_from
  explore-over turns i keys rows l q = rw (lt-ltb i (length keys) l, q, explore_from)

  pub explore-end : (turns i : ℕ) (keys : List Key) (rows : List (List ℕ)) → length keys ≤ i → explore_from same step start Σ limit turns i keys rows ≡ within keys rows
  unfolding explore_from
  explore-end zero i keys rows l = refl
  explore-end (suc turns) i keys rows l = rw (le-ltb i (length keys) l, explore_from)
