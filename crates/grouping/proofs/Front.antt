-- Of a list of groups the model reads those of the n states only: what stands past them does not matter.
use mathlib.Core.Path.{◌≡◌, refl, ap, ap₂, ◌∙◌}
use mathlib.Core.Bool.{Bool, cond}
use mathlib.Core.List.{List, [], ◌∷◌, map}
use Prim.Native.Nat.{ℕ, zero, suc, ◌≤◌, ◌<◌}
use native.Mathlib.Omega.{arith}
use lib.Dec.{eqb}
use lib.ListN.{get_or, take}
use Rattle.meaning.specs.Traces.{Alphabet}
use Rattle.sequences.specs.Tabulate.{tabulate}
use Rattle.meaning.specs.Monitors.{keep}
use Rattle.moore.specs.Counting.{count_below}
use Rattle.moore.specs.Grouping.{entry, together, leads}
use Rattle.moore.specs.Quotient.{leaders, leader, size, number, closed}
use Rattle.group_slots.specs.Groups.{RowBelow}
use Rattle.refinement.proofs.Front.{events-same, front_at, together-front}

-- ---- equal below the bound
pub map-tabulate : {A B : Type 0} (h : A → B) (n : ℕ) (f : ℕ → A) → map h (tabulate n f) ≡ tabulate n (λ i. h (f i))
map-tabulate h zero f = refl
map-tabulate {B = B} h (suc n) f = ap (λ (l : List B). h (f zero) ∷ l) (map-tabulate h n (λ i. f (suc i)))

count_same : (n : ℕ) (p q : ℕ → Bool) → ((i : ℕ) → i < n → p i ≡ q i) → count_below n p ≡ count_below n q
count_same zero p q h = refl
count_same (suc n) p q h = ap₂ (λ (a : Bool) (b : ℕ). cond a (suc b) b) (h n (omega arith)) (count_same n p q (λ i l. h i (omega arith)))

keep_same : (n : ℕ) (f : ℕ → ℕ) (p q : ℕ → Bool) → ((i : ℕ) → i < n → p (f i) ≡ q (f i)) → keep p (tabulate n f) ≡ keep q (tabulate n f)
keep_same zero f p q h = refl
keep_same (suc n) f p q h =
    ap₂ (λ (a : Bool) (l : List ℕ). cond a (f zero ∷ l) l) (h zero (omega arith)) (keep_same n (λ i. f (suc i)) p q (λ i l. h (suc i) (omega arith)))

-- ---- the front of a list of groups
module _ (n : ℕ) (group : List ℕ) where
  leads-front : (i : ℕ) → i < n → leads (take n group) i ≡ leads group i
  leads-front i l = ap (λ (x : ℕ). eqb x i) (front_at n group i l)

  pub size-front : size n (take n group) ≡ size n group
  unfolding size
  size-front = count_same n (leads (take n group)) (leads group) leads-front

  pub leader-front : (q : ℕ) → leader n (take n group) q ≡ leader n group q
  unfolding leader leaders
  leader-front q = ap (λ (l : List ℕ). get_or l q 0) (keep_same n (λ i. i) (leads (take n group)) (leads group) leads-front)

  pub number-front : (i : ℕ) → i < n → get_or group i 0 ≤ n → number (take n group) i ≡ number group i
  unfolding number
  number-front i l h = ap (λ (x : ℕ). count_below x (leads (take n group))) (front_at n group i l) ∙ count_same (get_or group i 0) (leads (take n group)) (leads group) (λ j m. leads-front j (omega arith))

  pub closed-front : (Σ : Alphabet) (rows : List (List ℕ)) (s : ℕ) → s < n → RowBelow Σ n (get_or rows s []) → closed Σ rows (take n group) s ≡ closed Σ rows group s
  unfolding closed
  closed-front Σ rows s l h = events-same Σ (λ e. together (take n group) (entry rows s e) s) (λ e. together group (entry rows s e) s) (λ e m. together-front n group (entry rows s e) s (h.to e m) l)
