-- The closure by passes over a matrix, and that it is crate ltl's closure of rows.
use mathlib.Core.Path.{◌≡◌, refl, sym, ap, ◌∙◌, subst}
use mathlib.Core.Bool.{Bool, true, false, ◌||◌}
use mathlib.Core.List.{List}
use Prim.Native.Nat.{ℕ, zero, suc, ◌+◌, ◌≤◌, ◌<◌}
use native.Mathlib.Numerals.{add-one}
use native.Mathlib.Omega.{arith}
use lib.Bits.{bit_or}
use Rattle.ltl.specs.Sets.{on}
use Rattle.ltl.specs.Closure.{row, closure}
use Rattle.ltl.proofs.Closure.{row-pass}
use Rattle.ltl.proofs.Sets.{on_or}
use Rattle.relations.specs.Relations.{entry, Matrix, through, closed}

abbrev joins : Bool → Bool → Bool → Bool
joins a b c = elim a [ true ↦ b || c | false ↦ c ]

-- two relations that agree below n
pub record Agree (n : ℕ) (r s : ℕ → ℕ → Bool) : Type 0 where
  pub is : (x y : ℕ) → x < n → y < n → r x y ≡ s x y

through-agree : {n : ℕ} {r s : ℕ → ℕ → Bool} → Agree n r s → (k : ℕ) → k < n → Agree n (through k r) (through k s)
through-agree h k l = record { is = λ x y a b. λ i. joins (h.is x k a l i) (h.is k y l b i) (h.is x y a b i) }

-- the matrix m holds the ways through the numbers below k of the one from which it started
pub record Closing (k n : ℕ) (old m : List ℕ) : Type 0 where
  pub holds : Matrix n (closed k (entry old)) m

pub closing-more : {k n : ℕ} {old m : List ℕ} → Closing k n old m → {m' : List ℕ} → k < n → Matrix n (through k (entry m)) m' → Closing (k + 1) n old m'
closing-more {k} {n} {old} {m} h {m'} l q = record {
  holds = subst (λ (j : ℕ). Matrix n (closed j (entry old)) m') (sym (add-one k))
      (record { is = λ x y a b. q.is x y a b ∙ (through-agree (record { is = h.holds.is }) k l).is x y a b });
}

-- ---- rows as numbers

-- the relation that rows of numbers hold
abbrev pub related : List ℕ → ℕ → ℕ → Bool
related rows x y = on (row rows x) y

pass-related : (k : ℕ) (rows : List ℕ) (x y : ℕ) → related (closure (suc k) rows) x y ≡ through k (related (closure k rows)) x y
pass-related k rows x y =
    let now = closure k rows in
    ap (λ (r : ℕ). on r y) (row-pass k now x) ∙ go (on (row now x) k)
  where
    go : (b : Bool) → on (elim b [ true ↦ bit_or (row (closure k rows) k) (row (closure k rows) x) | false ↦ row (closure k rows) x ]) y
        ≡ joins b (related (closure k rows) k y) (related (closure k rows) x y)
    go true = on_or (row (closure k rows) k) (row (closure k rows) x) y
    go false = refl

pub closed-related : {n : ℕ} {r : ℕ → ℕ → Bool} (rows : List ℕ) → Agree n r (related rows) → (k : ℕ) → k ≤ n → Agree n (closed k r) (related (closure k rows))
closed-related rows h zero l = h
closed-related {n} {r} rows h (suc k) l = record {
  is = λ x y a b. (through-agree (closed-related rows h k (omega arith)) k l).is x y a b ∙ sym (pass-related k rows x y);
}
