-- The quotient of a machine that is numbered breadth-first is numbered breadth-first.
use mathlib.Core.Path.{◌≡◌, refl, sym, ap, ◌∙◌, subst}
use mathlib.Core.Logic.{◌⊎◌, inl, inr}
use mathlib.Core.List.{List, map}
use Prim.Native.Nat.{ℕ, zero, suc, ◌≤◌, ◌<◌}
use native.Mathlib.Nat.{lt_trans}
use native.Mathlib.Decide.{dec_lt}
use native.Mathlib.Omega.{arith}
use lib.ListN.{length, get_or, get_or-map}
use Rattle.meaning.specs.Traces.{Alphabet, Event}
use Rattle.meaning.specs.Monitors.{events, BreadthFirst}
use Rattle.moore.specs.Grouping.{entry, machine, Machine, leads, Grouped, Stable}
use Rattle.moore.specs.Quotient.{leader, size, number, quotient_rows, quotient}
use Rattle.moore.proofs.Counting.{count-mono, count-lt}
use Rattle.moore.proofs.Walks.{map-map, map_same, events-all}
use Rattle.moore.proofs.Grouping.{machine-over}
use Rattle.moore.proofs.Quotient.{leader-is, leader-in, leader-number, number-leader, number_in, number-start, own-leads, next-number, quotient-over}
use Rattle.moore.proofs.Ordered.{row, row_in, Met, Found, OrderedFrom, ordered, breadth-first}

module _ {Σ : Alphabet} {n : ℕ} {rows : List (List ℕ)} {classes group : List ℕ}
    (M : Machine Σ n rows classes) (G : Grouped Σ n rows classes group) (S : Stable Σ n rows group) where
  -- a state below a group's least is in a group of lower number
  number_lt : (s q : ℕ) → s < n → q < size n group → s < leader n group q → number group s < q
  unfolding number
  number_lt s q h l m =
      let a : get_or group s 0 ≤ s = G.least s h in
      subst (λ (x : ℕ). number group s < x) (leader-is M G S q l).count (count-lt (get_or group s 0) (leader n group q) (leads group) (omega arith) (own-leads M G S s h))

  leader-lt : (p q : ℕ) → p < size n group → q < size n group → p < q → leader n group p < leader n group q
  leader-lt p q l l' h = go (dec_lt (leader n group p) (leader n group q))
    where
      go : Dec (leader n group p < leader n group q) → leader n group p < leader n group q
      go (yes a) = a
      go (no a) = absurd (omega (arith, count-mono (leader n group q) (leader n group p) (leads group) (omega arith), (leader-is M G S p l).count, (leader-is M G S q l').count))

  leader-pos : (q : ℕ) → q < size n group → 1 ≤ q → 1 ≤ leader n group q
  leader-pos q l h = go (leader n group q) refl
    where
      go : (s : ℕ) → leader n group q ≡ s → 1 ≤ s
      go zero e = let z : q ≡ 0 = sym (number-leader M G S q l) ∙ ap (number group) e ∙ number-start M G S in absurd (omega arith)
      go (suc s) e = omega arith

  -- the rows of the quotient
  row_number : (s i : ℕ) → s < n → get_or (row Σ (quotient Σ n rows classes group) (number group s)) i 0 ≡ number group (get_or (row Σ (machine n rows classes) s) i 0)
  row_number s i h =
      ap (λ (l : List ℕ). get_or l i 0)
      (map_same (Event Σ) (entry (quotient_rows Σ n rows group) (number group s)) (λ e. number group (entry rows s e)) (events Σ) (λ e l. next-number M G S s e h l) (events-all Σ)
      ∙ sym (map-map (number group) (entry rows s) (events Σ)))
      ∙ ap (get_or (map (number group) (row Σ (machine n rows classes) s)) i) (sym (number-start M G S))
      ∙ get_or-map (number group) (row Σ (machine n rows classes) s) i 0

  quotient-ordered : OrderedFrom Σ (machine n rows classes) 0 1 → OrderedFrom Σ (quotient Σ n rows classes group) 0 1
  quotient-ordered o = record { order = λ q i p a. order q i p; found = found }
    where
      found : (p : ℕ) → 1 ≤ p → p < size n group → Found Σ (quotient Σ n rows classes group) p
      found p h l =
          let x = o.found (leader n group p) (leader-pos p l h) (leader-in M G S p l) in
          let s : x.state < n = lt_trans x.lower (leader-in M G S p l) in
          record {
            state = number group x.state;
            lower = number_lt x.state p s l x.lower;
            index = x.index;
            index_in = x.index_in;
            is = row_number x.state x.index s ∙ ap (number group) x.is ∙ number-leader M G S p l;
          }

      order : (q i p : ℕ) → q < size n group → i < length (events Σ) → 1 ≤ p → p < get_or (row Σ (quotient Σ n rows classes group) q) i 0 → Met Σ (quotient Σ n rows classes group) q i p
      order q i p l h a g = go (o.order s i (leader n group p) (omega arith) ls h (leader-pos p lp a) lower)
        where
          s : ℕ
          s = leader n group q

          t : ℕ
          t = get_or (row Σ (machine n rows classes) s) i 0

          ls : s < n
          ls = leader-in M G S q l

          lt : t < n
          lt = row_in (machine-over M) s i ls h

          below : p < number group t
          below = subst (λ (x : ℕ). p < x) (ap (λ (q : ℕ). get_or (row Σ (quotient Σ n rows classes group) q) i 0) (sym (number-leader M G S q l)) ∙ row_number s i ls) g

          lp : p < size n group
          lp = lt_trans below (number_in M G S t lt)

          lower : leader n group p < t
          lower = omega (arith, leader-lt p (number group t) lp (number_in M G S t lt) below, leader-number M G S t lt, G.least t lt)

          go : Met Σ (machine n rows classes) s i (leader n group p) → Met Σ (quotient Σ n rows classes group) q i p
          go x = pick x.before
            where
              met : x.state < n → (number group x.state < q) ⊎ ((number group x.state ≡ q) × (x.index < i)) → Met Σ (quotient Σ n rows classes group) q i p
              met k b = record {
                state = number group x.state;
                index = x.index;
                index_in = x.index_in;
                before = b;
                is = row_number x.state x.index k ∙ ap (number group) x.is ∙ number-leader M G S p lp;
              }

              pick : (x.state < s) ⊎ ((x.state ≡ s) × (x.index < i)) → Met Σ (quotient Σ n rows classes group) q i p
              pick (inl b) = let k : x.state < n = lt_trans b ls in met k (inl (number_lt x.state q k l b))
              pick (inr b) = met (subst (λ (y : ℕ). y < n) (sym b.0) ls) (inr (ap (number group) b.0 ∙ number-leader M G S q l, b.1))

  pub quotient-breadth-first : BreadthFirst Σ (machine n rows classes) → BreadthFirst Σ (quotient Σ n rows classes group)
  quotient-breadth-first b = breadth-first Σ (quotient Σ n rows classes group) (quotient-over M G S) (quotient-ordered (ordered Σ (machine n rows classes) refl b)) refl
