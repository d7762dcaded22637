-- Loops over the rows of a relation, and over the events.
use mathlib.Core.Path.{◌≡◌, refl, sym, ap, ap₂, ◌∙◌, subst}
use mathlib.Core.Bool.{Bool, true, false, ◌||◌}
use mathlib.Core.List.{List}
use Prim.Native.Nat.{ℕ, ◌+◌, ◌≤◌, ◌<◌}
use native.Mathlib.Numerals.{add-one}
use native.Mathlib.Decide.{ℕ_discrete}
use native.Mathlib.Omega.{arith}
use lib.ListN.{length, get_or, replicate, get_or-replicate}
use lib.Dec.{eqb}
use Rattle.meaning.specs.Traces.{masked}
use Rattle.ltl.specs.Sets.{on}
use Rattle.ltl.proofs.Sets.{on-zero}
use Rattle.relations.specs.Relations.{entry, Matrix, Added, RowPassed, label_at, edge, through}

-- ---- the ways through k, row by row

-- the rows below w are made, and the others are as they were
pub record Made (w n : ℕ) (r : ℕ → ℕ → Bool) (old m : List ℕ) : Type 0 where
  pub long : length m ≡ 128
  pub done : (x y : ℕ) → x < w → y < n → entry m x y ≡ r x y
  pub left : (x y : ℕ) → w ≤ x → y < n → entry m x y ≡ entry old x y

abbrev joins : Bool → Bool → Bool → Bool
joins a b c = elim a [ true ↦ b || c | false ↦ c ]

joins-same : {a b c a' b' c' : Bool} → a ≡ a' → b ≡ b' → c ≡ c' → joins a b c ≡ joins a' b' c'
joins-same p q s i = joins (p i) (q i) (s i)

module _ (k : ℕ) {w n : ℕ} {old m : List ℕ} (h : Made w n (through k (entry old)) old m) (few : n ≤ 128) (l : k < n) where
  pub made_more : (new : List ℕ) → RowPassed (entry m w k) (get_or old k 0) w m new → Made (w + 1) n (through k (entry old)) old new
  made_more new q = record {
    long = q.long;
    done = λ x y a b. go x y a b (ℕ_discrete x w);
    left = λ x y a b. q.others x y (λ e. omega arith) ∙ h.left x y (omega arith) b;
  }
    where
      here : (y : ℕ) → y < n → entry new w y ≡ through k (entry old) w y
      here y b = q.row y ∙ joins-same (h.left w k (omega arith) l) refl (h.left w y (omega arith) b)

      go : (x y : ℕ) → x < w + 1 → y < n → Dec (x ≡ w) → entry new x y ≡ through k (entry old) x y
      go x y a b (yes e) = subst (λ (v : ℕ). entry new v y ≡ through k (entry old) v y) (sym e) (here y b)
      go x y a b (no e) = q.others x y e ∙ h.done x y (omega arith) b

-- ---- the edges of all events

-- the rows hold the edges of the events of the mask below w
pub record Edges (mask w n : ℕ) (profiles : List (List ℕ)) (m : List ℕ) : Type 0 where
  pub holds : Matrix n (edge (masked w mask) n profiles) m

pub edges_none : {mask n : ℕ} {profiles : List (List ℕ)} → n ≤ 128 → Edges mask 0 n profiles (replicate 128 0)
edges_none few = record {
  holds = record { is = λ x y a b. ap (λ (A : ℕ). on A y) (get_or-replicate 128 x 0 0 (omega arith)) ∙ on-zero y };
}

abbrev or : Bool → Bool → Bool
or a b = elim a [ true ↦ true | false ↦ b ]

module _ {mask n : ℕ} {profiles : List (List ℕ)} {e : ℕ} {m : List ℕ} (h : Edges mask e n profiles m) where
  -- with an edge by e, if e can happen and makes one, x is related to y by the events up to e
  one_more : (x y : ℕ) → x < n → y < n → (t : Bool) → on mask e ≡ t
      → or (elim t [ true ↦ eqb (label_at n profiles e y) x | false ↦ false ]) (entry m x y) ≡ edge (masked (e + 1) mask) n profiles x y
  one_more x y a b t p =
      ap₂ (λ (t r : Bool). or (elim t [ true ↦ eqb (label_at n profiles e y) x | false ↦ false ]) r) (sym p) (h.holds.is x y a b)
      ∙ ap (λ (j : ℕ). edge (masked j mask) n profiles x y) (sym (add-one e))

  -- the event e can happen, and its edges are added
  pub edges_more : on mask e ≡ true → {new : List ℕ} → Added n n (λ x y. eqb (label_at n profiles e y) x) m new → Edges mask (e + 1) n profiles new
  edges_more p q = record { holds = record { is = λ x y a b. q.done x y a b b ∙ one_more x y a b true p } }

  -- it cannot, and has none
  pub edges-skip : on mask e ≡ false → Edges mask (e + 1) n profiles m
  edges-skip p = record { holds = record { is = λ x y a b. one_more x y a b false p } }
