-- A relation between labels, as rows hold it: its pairs, the edges that the profiles give, and the ways along them.
use Rattle.std.specs.Prelude.{◌≡◌, Bool, true, false, ◌||◌, List, ℕ, zero, suc, ◌≤◌, ◌<◌, length, get_or, eqb}
use Rattle.meaning.specs.Traces.{Alphabet, Event}
use Rattle.ltl.specs.Sets.{on, some_event}
use Rattle.ltl.specs.Residuals.{before}
use Rattle.ltl.specs.Keys.{look}

-- whether a matrix relates x to y: y is in row x
abbrev pub entry : List ℕ → ℕ → ℕ → Bool
entry m x y = on (get_or m x 0) y

-- the relation below n that a matrix holds, whatever else it holds
pub record Matrix (n : ℕ) (r : ℕ → ℕ → Bool) (m : List ℕ) : Type 0 where
  pub is : (x y : ℕ) → x < n → y < n → entry m x y ≡ r x y

-- where the answer is yes, x is related to nothing
pub record EmptyRow (x : ℕ) (m : List ℕ) (answer : Bool) : Type 0 where
  pub none : answer ≡ true → (y : ℕ) → y < 128 → entry m x y ≡ false

-- the pair of x and y is added, and no other
pub record MarkedAt (x y : ℕ) (old new : List ℕ) : Type 0 where
  pub there : entry new x y ≡ true
  pub row_else : (v z : ℕ) → (v ≡ x → ⊥) → entry new v z ≡ entry old v z
  pub column_else : (v z : ℕ) → (z ≡ y → ⊥) → entry new v z ≡ entry old v z

-- the pairs of r with a second number below w are added, of those below n
pub record Added (w n : ℕ) (r : ℕ → ℕ → Bool) (old new : List ℕ) : Type 0 where
  pub done : (x y : ℕ) → x < n → y < w → y < n → entry new x y ≡ elim (r x y) [ true ↦ true | false ↦ entry old x y ]
  pub left : (x y : ℕ) → x < n → w ≤ y → y < n → entry new x y ≡ entry old x y

-- ---- edges: the events that can happen, n labels; the profile by event and next label

abbrev pub label_at : ℕ → List (List ℕ) → ℕ → ℕ → ℕ
label_at n profiles = before n (look profiles)

abbrev pub edge : Alphabet → ℕ → List (List ℕ) → ℕ → ℕ → Bool
edge Σ n profiles x y = some_event Σ (λ e. eqb (label_at n profiles e y) x)

-- ---- closure

-- a set, or none
abbrev pub only_if : Bool → ℕ → ℕ
only_if test A = elim test [ true ↦ A | false ↦ 0 ]

-- row x is joined with the set A where the test holds, and the others are as they were
pub record RowPassed (test : Bool) (A x : ℕ) (old new : List ℕ) : Type 0 where
  pub long : length new ≡ 128
  pub row : (y : ℕ) → entry new x y ≡ elim test [ true ↦ on A y || entry old x y | false ↦ entry old x y ]
  pub others : (v y : ℕ) → (v ≡ x → ⊥) → entry new v y ≡ entry old v y

-- with the ways through k
abbrev pub through : ℕ → (ℕ → ℕ → Bool) → ℕ → ℕ → Bool
through k r x y = elim (r x k) [ true ↦ r k y || r x y | false ↦ r x y ]

-- with the ways through the numbers below k
abbrev pub closed : ℕ → (ℕ → ℕ → Bool) → ℕ → ℕ → Bool
closed zero r = r
closed (suc k) r = through k (closed k r)

-- r is transitive and has all edges
pub record Reaches (Σ : Alphabet) (n : ℕ) (profiles : List (List ℕ)) (r : ℕ → ℕ → Bool) : Type 0 where
  pub via : (x v y : ℕ) → x < n → v < n → y < n → r x v ≡ true → r v y ≡ true → r x y ≡ true
  pub edges : (e y : ℕ) → Event Σ e → y < n → r (label_at n profiles e y) y ≡ true
