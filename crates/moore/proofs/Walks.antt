-- What holds of the start and passes from a state to its successors holds of every state that the breadth-first walk meets.
use mathlib.Core.Path.{◌≡◌, refl, ap, ap₂}
use mathlib.Core.List.{List, [], ◌∷◌, ◌++◌, map}
use mathlib.Core.Bool.{Bool, true, false, cond}
use Prim.Native.Nat.{ℕ, zero, suc, ◌<◌}
use native.Mathlib.Nat.{not-suc-le-zero, le_of_suc-le-suc}
use native.Mathlib.Omega.{arith}
use lib.Dec.{T}
use lib.ListN.{length, get_or}
use Rattle.sequences.specs.Tabulate.{tabulate, up_to}
use Rattle.meaning.specs.Traces.{Alphabet, Event}
use Rattle.meaning.specs.Monitors.{Monitor, member, newly_met, keep, events, walk}

-- P holds of every element
abbrev pub All : (ℕ → Type 0) → List ℕ → Type 0
All P [] = Unit {0}
All P (a ∷ l) = P a × All P l

module _ (P : ℕ → Type 0) where
  pub all_append : (l l' : List ℕ) → All P l → All P l' → All P (l ++ l')
  all_append [] l' h h' = h'
  all_append (a ∷ l) l' h h' = (h.0, all_append l l' h.1 h')

  pub all-at : (l : List ℕ) (i : ℕ) → All P l → i < length l → P (get_or l i 0)
  all-at [] i h m = absurd (not-suc-le-zero m)
  all-at (a ∷ l) zero h m = h.0
  all-at (a ∷ l) (suc i) h m = all-at l i h.1 (le_of_suc-le-suc m)

  all-tabulate : (n : ℕ) (f : ℕ → ℕ) → ((i : ℕ) → i < n → P (f i)) → All P (tabulate n f)
  all-tabulate zero f h = tt
  all-tabulate (suc n) f h = (h zero (omega arith), all-tabulate n (λ i. f (suc i)) (λ i l. h (suc i) (omega arith)))

  all_keep : (p : ℕ → Bool) (l : List ℕ) → All P l → All (λ e. P e × T (p e)) (keep p l)
  all_keep p [] h = tt
  all_keep p (e ∷ l) h = go (p e) refl (all_keep p l h.1)
    where
      go : (b : Bool) → p e ≡ b → All (λ e. P e × T (p e)) (keep p l) → All (λ e. P e × T (p e)) (cond b (e ∷ keep p l) (keep p l))
      go true q r = ((h.0, rw q tt), r)
      go false q r = r

  all_new : (met l : List ℕ) → All P l → All P (newly_met met l)
  all_new met [] h = tt
  all_new met (t ∷ l) h = go (member t met) (all_new met l h.1) (all_new (met ++ (t ∷ [])) l h.1)
    where
      go : (b : Bool) → All P (newly_met met l) → All P (newly_met (met ++ (t ∷ [])) l) → All P (cond b (newly_met met l) (t ∷ newly_met (met ++ (t ∷ [])) l))
      go true r r' = r
      go false r r' = (h.0, r')

pub events-all : (Σ : Alphabet) → All (Event Σ) (events Σ)
events-all Σ = all_keep (λ e. e < Σ.width) Σ.possible (up_to Σ.width) (all-tabulate (λ e. e < Σ.width) Σ.width (λ i. i) (λ i l. l))

pub all_map : (P Q : ℕ → Type 0) (f : ℕ → ℕ) (l : List ℕ) → ((a : ℕ) → P a → Q (f a)) → All P l → All Q (map f l)
all_map P Q f [] g h = tt
all_map P Q f (a ∷ l) g h = (g a h.0, all_map P Q f l g h.1)

pub map-map : (f g : ℕ → ℕ) (l : List ℕ) → map f (map g l) ≡ map (λ a. f (g a)) l
map-map f g [] = refl
map-map f g (a ∷ l) = ap (λ (t : List ℕ). f (g a) ∷ t) (map-map f g l)

pub map_same : (P : ℕ → Type 0) (f g : ℕ → ℕ) (l : List ℕ) → ((a : ℕ) → P a → f a ≡ g a) → All P l → map f l ≡ map g l
map_same P f g [] q h = refl
map_same P f g (a ∷ l) q h = ap₂ ◌∷◌ (q a h.0) (map_same P f g l q h.1)

module _ (Σ : Alphabet) (m : Monitor) (P : ℕ → Type 0) (step : (s e : ℕ) → P s → Event Σ e → P (m.next s e)) where
  -- the states that a turn meets first
  pub turn-all : (met : List ℕ) (s : ℕ) → P s → All P (newly_met met (map (m.next s) (events Σ)))
  turn-all met s h = all_new P met (map (m.next s) (events Σ)) (all_map (Event Σ) P (m.next s) (events Σ) (λ e l. step s e h l) (events-all Σ))

  pub walk-all : (k : ℕ) (queue met : List ℕ) → All P queue → All P met → All P (walk Σ m k queue met)
  walk-all zero queue met h l = l
  walk-all (suc k) [] met h l = l
  walk-all (suc k) (s ∷ queue) met h l =
      let new = newly_met met (map (m.next s) (events Σ)) in
      let r : All P new = turn-all met s h.0 in
      walk-all k (queue ++ new) (met ++ new) (all_append P queue new h.1 r) (all_append P met new l r)
