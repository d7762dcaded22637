-- A monitor is numbered breadth-first exactly if, row by row, each state from 1 on is met after all those of lower number, and before its own row.
use mathlib.Core.Path.{◌≡◌, refl, sym, ap, ap₂, ◌∙◌, subst}
use mathlib.Core.Logic.{◌⊎◌, inl, inr}
use mathlib.Core.List.{List, [], ◌∷◌, ◌++◌, map, append-nil, append_assoc}
use Prim.Native.Nat.{ℕ, zero, suc, ◌+◌, ◌≤◌, ◌<◌}
use native.Mathlib.Nat.{zero-add, le_refl, le_trans, le_of_suc-le, not-suc-le-zero}
use native.Mathlib.Decide.{ℕ_discrete, dec_lt}
use native.Mathlib.Omega.{arith}
use lib.ListN.{length, get_or, length-map}
use Rattle.meaning.specs.Traces.{Alphabet, Event}
use Rattle.meaning.specs.Monitors.{Monitor, Over, newly_met, events, walk, BreadthFirst}
use Rattle.moore.proofs.Walks.{all-at, all_map, events-all}
use Rattle.moore.proofs.Ascending.{from, up_to-from, from-length, from-append, from-split, Earlier, Row, row→, →row}

-- the successors of state s, for the events that can happen, ascending
abbrev pub row : Alphabet → Monitor → ℕ → List ℕ
row Σ m s = map (m.next s) (events Σ)

-- t is a successor in a row before row s, or in row s before place i
pub record Met (Σ : Alphabet) (m : Monitor) (s i t : ℕ) : Type 0 where
  pub state : ℕ
  pub index : ℕ
  pub index_in : index < length (events Σ)
  pub before : (state < s) ⊎ ((state ≡ s) × (index < i))
  pub is : get_or (row Σ m state) index 0 ≡ t

pub record Found (Σ : Alphabet) (m : Monitor) (t : ℕ) : Type 0 where
  pub state : ℕ
  pub lower : state < t
  pub index : ℕ
  pub index_in : index < length (events Σ)
  pub is : get_or (row Σ m state) index 0 ≡ t

-- from row k on, where the states below c are known
pub record OrderedFrom (Σ : Alphabet) (m : Monitor) (k c : ℕ) : Type 0 where
  pub order : (s i t : ℕ) → k ≤ s → s < m.states → i < length (events Σ) → c ≤ t → t < get_or (row Σ m s) i 0 → Met Σ m s i t
  pub found : (t : ℕ) → c ≤ t → t < m.states → Found Σ m t

row-length : (Σ : Alphabet) (m : Monitor) (s : ℕ) → length (row Σ m s) ≡ length (events Σ)
row-length Σ m s = length-map (events Σ) (m.next s)

pub row_in : {Σ : Alphabet} {m : Monitor} → Over Σ m → (s i : ℕ) → s < m.states → i < length (events Σ) → get_or (row Σ m s) i 0 < m.states
row_in {Σ} {m} v s i h l =
    all-at (λ t. t < m.states) (row Σ m s) i (all_map (Event Σ) (λ t. t < m.states) (m.next s) (events Σ) (λ e q. v.next_in s e h q) (events-all Σ)) (rw row-length l)

-- what the walk has met stays in front
walk_more : (Σ : Alphabet) (m : Monitor) (k : ℕ) (queue met : List ℕ) → (rest : List ℕ) × (walk Σ m k queue met ≡ met ++ rest)
walk_more Σ m zero queue met = ([], sym (append-nil met))
walk_more Σ m (suc k) [] met = ([], sym (append-nil met))
walk_more Σ m (suc k) (s ∷ queue) met =
    let new = newly_met met (row Σ m s) in
    let r = walk_more Σ m k (queue ++ new) (met ++ new) in
    (new ++ r.0, r.1 ∙ append_assoc met new r.0)

from_one : {n n' : ℕ} → from 0 n ≡ from 0 n' → n ≡ n'
from_one {n} {n'} e = sym (from-length 0 n) ∙ ap length e ∙ from-length 0 n'

-- ---- the walk, where the queue is k, .., c - 1 and the states met are 0, .., c - 1: one turn
module _ (Σ : Alphabet) (m : Monitor) where
  turn : (j k d c b : ℕ) → suc k + d ≡ c → newly_met (from 0 c) (row Σ m k) ≡ from c b
      → walk Σ m (suc j) (from k (suc d)) (from 0 c) ≡ walk Σ m j (from (suc k) (d + b)) (from 0 (c + b))
  turn j k d c b h e = ap₂ (walk Σ m j)
      (ap (λ (l : List ℕ). from (suc k) d ++ l) (e ∙ ap (λ (x : ℕ). from x b) (sym h)) ∙ from-append (suc k) d b)
      (ap (λ (l : List ℕ). from 0 c ++ l) (e ∙ ap (λ (x : ℕ). from x b) (sym (zero-add c))) ∙ from-append 0 c b)

  -- what a turn meets first is ascending, if all that the walk meets is
  new-ascending : (j k d c n : ℕ) → walk Σ m (suc j) (from k (suc d)) (from 0 c) ≡ from 0 n → (b : ℕ) × (newly_met (from 0 c) (row Σ m k) ≡ from c b)
  new-ascending j k d c n h =
      let new = newly_met (from 0 c) (row Σ m k) in
      let r = walk_more Σ m j (from (suc k) d ++ new) (from 0 c ++ new) in
      let a = from-split 0 n (from 0 c ++ new) r.0 (sym r.1 ∙ h) in
      let b = from-split 0 (length (from 0 c ++ new)) (from 0 c) new a.front in
      (length new, b.back ∙ ap (λ (x : ℕ). from x (length new)) (zero-add (length (from 0 c)) ∙ from-length 0 c))

  -- a row in order, and those after it
  one_more : {k c b : ℕ} → k < c → Row c b (row Σ m k) → OrderedFrom Σ m (suc k) b → OrderedFrom Σ m k c
  one_more {k} {c} {b} h r o = record { order = λ s i t p q. order s i t q (ℕ_discrete s k) (dec_lt t b) p; found = λ t p q. found t p q (dec_lt t b) }
    where
      met : {i t : ℕ} (s : ℕ) (i' : ℕ) → (e : Earlier (row Σ m k) i t) → i ≤ length (row Σ m k) → (k < s) ⊎ ((k ≡ s) × (e.index < i')) → Met Σ m s i' t
      met s i' e l b = record { state = k; index = e.index; index_in = subst (λ (x : ℕ). e.index < x) (row-length Σ m k) (le_trans e.before l); before = b; is = e.is }

      order : (s i t : ℕ) → s < m.states → Dec (s ≡ k) → Dec (t < b) → k ≤ s → i < length (events Σ) → c ≤ t → t < get_or (row Σ m s) i 0 → Met Σ m s i t
      order s i t q (yes e) d p l a g =
          let l' : i < length (row Σ m k) = rw row-length l in
          let x = r.order i t l' a (subst (λ (s : ℕ). t < get_or (row Σ m s) i 0) e g) in
          met s i x (le_of_suc-le l') (inr (sym e, x.before))
      order s i t q (no e) (yes d) p l a g = met s i (r.found t a d) (le_refl (length (row Σ m k))) (inl (omega arith))
      order s i t q (no e) (no d) p l a g = o.order s i t (omega arith) q l (omega arith) g

      found : (t : ℕ) → c ≤ t → t < m.states → Dec (t < b) → Found Σ m t
      found t p q (yes d) =
          let e = r.found t p d in
          record { state = k; lower = omega arith; index = e.index; index_in = subst (λ (x : ℕ). e.index < x) (row-length Σ m k) e.before; is = e.is }
      found t p q (no d) = o.found t (omega arith) q

  ordered-from : (j k d c : ℕ) → k + d ≡ c → k + j ≡ m.states → walk Σ m j (from k d) (from 0 c) ≡ from 0 m.states → OrderedFrom Σ m k c
  ordered-from zero k d c h l e = let q : c ≡ m.states = from_one e in record { order = λ s i t a b. absurd (omega arith); found = λ t a b. absurd (omega arith) }
  ordered-from (suc j) k zero c h l e = let q : c ≡ m.states = from_one e in absurd (omega arith)
  ordered-from (suc j) k (suc d) c h l e =
      let x = new-ascending j k d c m.states e in
      let b = x.0 in
      one_more (omega arith) (row→ (row Σ m k) c b x.1)
      (ordered-from j (suc k) (d + b) (c + b) (omega arith) (omega arith) (sym (turn j k d c b (omega arith) x.1) ∙ e))

  pub ordered : m.start ≡ 0 → BreadthFirst Σ m → OrderedFrom Σ m 0 1
  unfolding BreadthFirst
  ordered z h = ordered-from m.states 0 1 1 refl (zero-add m.states) (ap (λ (s : ℕ). walk Σ m m.states (s ∷ []) (s ∷ [])) (sym z) ∙ h ∙ up_to-from m.states)

  -- ---- the other way
  module _ (v : Over Σ m) (o : OrderedFrom Σ m 0 1) where
    -- all successors in the rows before k are below c: row k is in order
    row-order : (k c : ℕ) → 1 ≤ c → k < m.states → ((s i : ℕ) → s < k → i < length (events Σ) → get_or (row Σ m s) i 0 < c)
        → (i t : ℕ) → i < length (row Σ m k) → c ≤ t → t < get_or (row Σ m k) i 0 → Earlier (row Σ m k) i t
    row-order k c p q f i t l a g = go (o.order k i t (omega arith) q (rw row-length at l) (omega arith) g)
      where
        go : Met Σ m k i t → Earlier (row Σ m k) i t
        go x = pick x.before
          where
            pick : (x.state < k) ⊎ ((x.state ≡ k) × (x.index < i)) → Earlier (row Σ m k) i t
            pick (inl b) = absurd (omega (arith, f x.state x.index b x.index_in, x.is))
            pick (inr b) = record { index = x.index; before = b.1; is = ap (λ (s : ℕ). get_or (row Σ m s) x.index 0) (sym b.0) ∙ x.is }

    walk_from : (j k d c : ℕ) → k + d ≡ c → k + j ≡ m.states → 1 ≤ c → c ≤ m.states → ((s i : ℕ) → s < k → i < length (events Σ) → get_or (row Σ m s) i 0 < c)
        → walk Σ m j (from k d) (from 0 c) ≡ from 0 m.states
    walk_from zero k d c h l p q f = ap (from 0) (let e : c ≡ m.states = omega arith in e)
    walk_from (suc j) k zero c h l p q f = ap (from 0) (all (dec_lt c m.states))
      where
        all : Dec (c < m.states) → c ≡ m.states
        all (yes a) = let x = o.found c p a in absurd (omega (arith, f x.state x.index (let b : x.state < c = x.lower in omega arith) x.index_in, x.is))
        all (no a) = omega arith
    walk_from (suc j) k (suc d) c h l p q f =
        let x = →row (row Σ m k) c (row-order k c p (omega arith) f) in
        let r = row→ (row Σ m k) c x.0 x.1 in
        turn j k d c x.0 (omega arith) x.1 ∙ walk_from j (suc k) (d + x.0) (c + x.0) (omega arith) (omega arith) (omega arith) (bound x.0 r) (below x.0 r)
      where
        bound : (b : ℕ) → Row c (c + b) (row Σ m k) → c + b ≤ m.states
        bound zero r = omega arith
        bound (suc b) r = let e = r.found (c + b) (omega arith) (omega arith) in omega (arith, row_in v k e.index (omega arith) (rw row-length at e.before), e.is)

        below : (b : ℕ) → Row c (c + b) (row Σ m k) → (s i : ℕ) → s < suc k → i < length (events Σ) → get_or (row Σ m s) i 0 < c + b
        below b r s i g a = pick (ℕ_discrete s k)
          where
            pick : Dec (s ≡ k) → get_or (row Σ m s) i 0 < c + b
            pick (yes e) = subst (λ (s : ℕ). get_or (row Σ m s) i 0 < c + b) (sym e) (r.below i (rw row-length a))
            pick (no e) = omega (arith, f s i (omega arith) a)

    pub breadth-first : m.start ≡ 0 → BreadthFirst Σ m
    unfolding BreadthFirst
    breadth-first z =
        let l : 0 < m.states = rw z at v.start_in in
        ap (λ (s : ℕ). walk Σ m m.states (s ∷ []) (s ∷ [])) z
        ∙ walk_from m.states 0 1 1 refl (zero-add m.states) (le_refl 1) l (λ s i a. absurd (not-suc-le-zero a))
        ∙ sym (up_to-from m.states)
