-- A closed walk, gone round for ever after a walk to it: its events are those of a lasso, and each of its edges comes again and again.
use mathlib.Core.Path.{◌≡◌, refl, sym, ap, ◌∙◌, subst}
use mathlib.Core.Logic.{inl, inr}
use mathlib.Core.List.{List, [], ◌∷◌}
use Prim.Native.Nat.{ℕ, zero, suc, ◌+◌, ◌-◌, ◌≤◌, ◌<◌}
use native.Mathlib.Nat.{zero-add, suc-add, mod-eq_of_lt, mod-eq-sub-mod}
use native.Mathlib.Decide.{dec_lt}
use native.Mathlib.Omega.{arith}
use lib.ListN.{length, get_or}
use Rattle.meaning.specs.Traces.{turn}
use Rattle.ltl.proofs.Unfolding.{Later}
use Rattle.ltl.proofs.Walks.{Walk, one, step, events, Has}

-- where we stand, and the walk ahead to c
pub record State (E : ℕ → ℕ → ℕ → Type 0) (c : ℕ) : Type 0 where
  pub label : ℕ
  pub rest : Walk E label c

module _ {E : ℕ → ℕ → ℕ → Type 0} {c : ℕ} (round : Walk E c c) where
  abbrev pub event : {x : ℕ} → Walk E x c → ℕ
  event (one {e = e} s) = e
  event (step {e = e} s w) = e

  abbrev pub ahead : {x : ℕ} → Walk E x c → State E c
  ahead (one s) = record { label = c; rest = round }
  ahead (step {y = y} s w) = record { label = y; rest = w }

  pub edge : {x : ℕ} (w : Walk E x c) → E x (event w) (ahead w).label
  edge (one s) = s
  edge (step s w) = s

  abbrev pub after : State E c → ℕ → State E c
  after s zero = s
  after s (suc i) = after (ahead s.rest) i

  after-suc : (s : State E c) (i : ℕ) → ahead (after s i).rest ≡ after s (suc i)
  after-suc s zero = refl
  after-suc s (suc i) = after-suc (ahead s.rest) i

  after-add : (s : State E c) (i k : ℕ) → after s (i + k) ≡ after (after s i) k
  after-add s zero k = rw zero-add
  after-add s (suc i) k = rw suc-add (after-add (ahead s.rest) i k)

  pub after-edge : (s : State E c) (i : ℕ) → E (after s i).label (event (after s i).rest) (after s (suc i)).label
  after-edge s i = subst (λ (t : State E c). E (after s i).label (event (after s i).rest) t.label) (after-suc s i) (edge (after s i).rest)

  -- F holds of the edge that is taken at s
  abbrev pub Now : (F : ℕ → ℕ → ℕ → Type 0) → State E c → Type 0
  Now F s = F s.label (event s.rest) (ahead s.rest).label

  module _ (F : ℕ → ℕ → ℕ → Type 0) where
    has-soon : {x : ℕ} (w : Walk E x c) → Has F w → (k : ℕ) × Now F (after (record { label = x; rest = w }) k)
    has-soon (one s) h = (0, h)
    has-soon (step s w) (inl h) = (0, h)
    has-soon (step s w) (inr h) = let r = has-soon w h in (suc r.0, r.1)

    soon : Has F round → {x : ℕ} (w : Walk E x c) → (k : ℕ) × Now F (after (record { label = x; rest = w }) k)
    soon h (one s) = let r = has-soon round h in (suc r.0, r.1)
    soon h (step s w) = let r = soon h w in (suc r.0, r.1)

    pub again : Has F round → (s : State E c) (i : ℕ) → Later (λ k. F (after s k).label (event (after s k).rest) (after s (suc k)).label) i
    again h s i =
        let r = soon h (after s i).rest in
        record {
          time = i + r.0;
          after = omega arith;
          there =
              let x : Now F (after s (i + r.0)) = rw after-add r.1 in
              subst (λ (t : State E c). F (after s (i + r.0)).label (event (after s (i + r.0)).rest) t.label) (after-suc s (i + r.0)) x;
        }

-- ---- the events are a lasso's

turn-read : (s l : List ℕ) (i : ℕ) → i < length s → turn s l i ≡ get_or s i 0
turn-read [] l i h = absurd (omega arith)
turn-read (x ∷ s) l zero h = refl
turn-read (x ∷ s) l (suc i) h = turn-read s l i (omega arith)

turn-past : (s l : List ℕ) (k : ℕ) → turn s l (length s + k) ≡ turn [] l k
turn-past [] l k = rw zero-add
turn-past (x ∷ s) l k = rw suc-add (turn-past s l k)

turn-loop : (l : List ℕ) (i : ℕ) → turn [] l i ≡ turn l l i
turn-loop l i = go (dec_lt i (length l))
  where
    go : Dec (i < length l) → turn [] l i ≡ turn l l i
    go (yes h) = ap (λ (n : ℕ). get_or l n 0) (mod-eq_of_lt h) ∙ sym (turn-read l l i h)
    go (no h) =
        let g : length l ≤ i = omega arith in
        let e : length l + (i - length l) ≡ i = omega arith in
        ap (λ (n : ℕ). get_or l n 0) (mod-eq-sub-mod g) ∙ sym (turn-past l l (i - length l)) ∙ ap (turn l l) e

module _ {E : ℕ → ℕ → ℕ → Type 0} {c : ℕ} (round : Walk E c c) where
  pub word : {x : ℕ} (w : Walk E x c) (i : ℕ) → event round (after round (record { label = x; rest = w }) i).rest ≡ turn (events w) (events round) i
  word (one s) zero = refl
  word (step s w) zero = refl
  word {x = x} (one s) (suc i) = word {x = c} round i ∙ sym (turn-loop (events round) i)
  word {x = x} (step {y = y} s w) (suc i) = word {x = y} w i
