-- Two monitors numbered breadth-first of which one is the other renumbered are equal row by row; a monitor numbered breadth-first is reached.
use mathlib.Core.Path.{◌≡◌, refl, sym, ap, ap₂, ◌∙◌, subst}
use mathlib.Core.List.{List, [], ◌∷◌, ◌++◌, map}
use mathlib.Core.Bool.{Bool, true, false, cond, ◌||◌}
use Prim.Native.Nat.{ℕ, zero, suc, ◌<◌}
use native.Mathlib.Nat.{le_antisymm}
use native.Mathlib.Decide.{ℕ_discrete, dec_lt}
use lib.Dec.{eqb}
use lib.ListN.{get_or, get_or-map}
use borrow.Author.Tests.{eq-eqb, ne_eqb}
use Rattle.sequences.specs.Tabulate.{up_to}
use Rattle.sequences.proofs.Loops.{length-tab, get_d-tab}
use Rattle.sequences.proofs.Pigeonhole.{Injective, injective-le}
use Rattle.meaning.specs.Traces.{Alphabet, Event, Word}
use Rattle.meaning.specs.Monitors.{Monitor, Over, follow, Renumbered, member, newly_met, events, walk, BreadthFirst}
use Rattle.moore.specs.Reduced.{Reached, SameRows}
use Rattle.moore.proofs.Words.{word-append, follow-append}
use Rattle.moore.proofs.Walks.{All, all_append, all-at, all_map, map-map, map_same, events-all, turn-all, walk-all}

map-append : (f : ℕ → ℕ) (l l' : List ℕ) → map f (l ++ l') ≡ map f l ++ map f l'
map-append f [] l' = refl
map-append f (a ∷ l) l' = ap (λ (t : List ℕ). f a ∷ t) (map-append f l l')

-- ---- the walk commutes with an injective renaming f of the states below n
module _ (n k : ℕ) (f : ℕ → ℕ) (inj : Injective n k f) where
  member-map : (t : ℕ) (l : List ℕ) → t < n → All (λ s. s < n) l → member (f t) (map f l) ≡ member t l
  member-map t [] h a = refl
  member-map t (s ∷ l) h a = ap₂ ◌||◌ (same (ℕ_discrete t s)) (member-map t l h a.1)
    where
      same : Dec (t ≡ s) → eqb (f t) (f s) ≡ eqb t s
      same (yes e) = eq-eqb (f t) (f s) (ap f e) ∙ sym (eq-eqb t s e)
      same (no e) = ne_eqb (f t) (f s) (λ q. e (inj.injective t s h a.0 q)) ∙ sym (ne_eqb t s e)

  new-map : (met l : List ℕ) → All (λ s. s < n) met → All (λ s. s < n) l → map f (newly_met met l) ≡ newly_met (map f met) (map f l)
  new-map met [] h a = refl
  new-map met (t ∷ l) h a = go (member t met) (member-map t met a.0 h) (new-map met l h a.1) (new-map (met ++ (t ∷ [])) l (all_append (λ s. s < n) met (t ∷ []) h (a.0, tt)) a.1)
    where
      go : (b : Bool) → member (f t) (map f met) ≡ b → map f (newly_met met l) ≡ newly_met (map f met) (map f l)
          → map f (newly_met (met ++ (t ∷ [])) l) ≡ newly_met (map f (met ++ (t ∷ []))) (map f l)
          → map f (cond b (newly_met met l) (t ∷ newly_met (met ++ (t ∷ [])) l)) ≡ newly_met (map f met) (f t ∷ map f l)
      go true q r r' = rw q r
      go false q r r' = rw q (ap (λ (x : List ℕ). f t ∷ x) (r' ∙ ap (λ (x : List ℕ). newly_met x (map f l)) (map-append f met (t ∷ []))))

module _ {Σ : Alphabet} {m m' : Monitor} (o : Over Σ m) (r : Renumbered Σ m m') where
  inj : Injective m.states m'.states r.to
  inj = record { into = r.to_in; injective = λ s t h l e. sym (r.from_to s h) ∙ ap r.from e ∙ r.from_to t l }

  inj' : Injective m'.states m.states r.from
  inj' = record { into = r.from_in; injective = λ s t h l e. sym (r.to_from s h) ∙ ap r.to e ∙ r.to_from t l }

  pub states-same : m.states ≡ m'.states
  states-same = le_antisymm (injective-le m.states m'.states inj) (injective-le m'.states m.states inj')

  new : ℕ → List ℕ → List ℕ
  new s met = newly_met met (map (m.next s) (events Σ))

  new-same : (s : ℕ) (met : List ℕ) → s < m.states → All (λ s. s < m.states) met → map r.to (new s met) ≡ newly_met (map r.to met) (map (m'.next (r.to s)) (events Σ))
  unfolding new
  new-same s met h a =
      new-map m.states m'.states r.to inj met (map (m.next s) (events Σ)) a
      (all_map (Event Σ) (λ s. s < m.states) (m.next s) (events Σ) (λ e l. o.next_in s e h l) (events-all Σ))
      ∙ ap (newly_met (map r.to met)) (map-map r.to (m.next s) (events Σ)
      ∙ map_same (Event Σ) (λ e. r.to (m.next s e)) (m'.next (r.to s)) (events Σ) (λ e l. sym (r.successors s e h l)) (events-all Σ))

  walk-map : (k : ℕ) (queue met : List ℕ) → All (λ s. s < m.states) queue → All (λ s. s < m.states) met
      → map r.to (walk Σ m k queue met) ≡ walk Σ m' k (map r.to queue) (map r.to met)
  unfolding new
  walk-map zero queue met h a = refl
  walk-map (suc k) [] met h a = refl
  walk-map (suc k) (s ∷ queue) met h a =
      let b : All (λ s. s < m.states) (new s met) = turn-all Σ m (λ s. s < m.states) (λ s e l t. o.next_in s e l t) met s h.0 in
      walk-map k (queue ++ new s met) (met ++ new s met) (all_append (λ s. s < m.states) queue (new s met) h.1 b) (all_append (λ s. s < m.states) met (new s met) a b)
      ∙ ap₂ (walk Σ m' k)
      (map-append r.to queue (new s met) ∙ ap (λ (x : List ℕ). map r.to queue ++ x) (new-same s met h.0 a))
      (map-append r.to met (new s met) ∙ ap (λ (x : List ℕ). map r.to met ++ x) (new-same s met h.0 a))

  -- both numbered breadth-first: no state changes its number
  module _ (b : BreadthFirst Σ m) (b' : BreadthFirst Σ m') where
    up_to-same : map r.to (up_to m.states) ≡ up_to m.states
    unfolding BreadthFirst
    up_to-same =
        ap (map r.to) (sym b)
        ∙ walk-map m.states (m.start ∷ []) (m.start ∷ []) (o.start_in, tt) (o.start_in, tt)
        ∙ ap₂ (λ (k s : ℕ). walk Σ m' k (s ∷ []) (s ∷ [])) states-same r.starts
        ∙ b'
        ∙ ap up_to (sym states-same)

    pub to_same : (s : ℕ) → s < m.states → r.to s ≡ s
    to_same s h =
        ap r.to (sym (get_d-tab m.states (λ i. i) s 0 h))
        ∙ sym (get_or-map r.to (up_to m.states) s 0)
        ∙ ap (λ (l : List ℕ). get_or l s (r.to 0)) up_to-same
        ∙ get_d-tab m.states (λ i. i) s (r.to 0) h

    pub canonical : SameRows Σ m m'
    canonical = record {
      states = states-same;
      start = sym (to_same m.start o.start_in) ∙ r.starts;
      verdict = λ s h. sym (r.verdicts s h) ∙ ap m'.verdict (to_same s h);
      next = λ s e h l. sym (to_same (m.next s e) (o.next_in s e h l)) ∙ sym (r.successors s e h l) ∙ ap (λ (t : ℕ). m'.next t e) (to_same s h);
    }

-- ---- access words
-- a word that leads from the start to s
record Access (Σ : Alphabet) (m : Monitor) (s : ℕ) : Type 0 where
  by : List ℕ
  word : Word Σ by
  arrives : follow m m.start by ≡ s

module _ (Σ : Alphabet) (m : Monitor) (b : BreadthFirst Σ m) where
  further : (s e : ℕ) → Access Σ m s → Event Σ e → Access Σ m (m.next s e)
  further s e a h = record {
    by = a.by ++ (e ∷ []);
    word = word-append Σ a.by (e ∷ []) a.word (h, tt);
    arrives = follow-append m m.start a.by (e ∷ []) ∙ ap (λ (t : ℕ). m.next t e) a.arrives;
  }

  access-all : All (Access Σ m) (up_to m.states)
  unfolding BreadthFirst
  access-all = subst (All (Access Σ m)) b (walk-all Σ m (Access Σ m) further m.states (m.start ∷ []) (m.start ∷ []) (first, tt) (first, tt))
    where
      first : Access Σ m m.start
      first = record { by = []; word = tt; arrives = refl }

  access-at : (s : ℕ) → s < m.states → Access Σ m s
  access-at s h = subst (Access Σ m) (get_d-tab m.states (λ i. i) s 0 h) (all-at (Access Σ m) (up_to m.states) s access-all (rw length-tab h))

  access_of : (s : ℕ) → Dec (s < m.states) → List ℕ
  access_of s (yes h) = (access-at s h).by
  access_of s (no h) = []

  pub reached : Reached Σ m
  unfolding access_of
  reached = record {
    access = λ s. access_of s (dec_lt s m.states);
    word = λ s h. word s h (dec_lt s m.states);
    arrives = λ s h. arrives s h (dec_lt s m.states);
  }
    where
      word : (s : ℕ) → s < m.states → (d : Dec (s < m.states)) → Word Σ (access_of s d)
      word s h (yes l) = (access-at s l).word
      word s h (no l) = absurd (l h)

      arrives : (s : ℕ) → s < m.states → (d : Dec (s < m.states)) → follow m m.start (access_of s d) ≡ s
      arrives s h (yes l) = (access-at s l).arrives
      arrives s h (no l) = absurd (l h)
