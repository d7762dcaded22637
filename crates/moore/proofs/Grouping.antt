-- The grouping is stable, puts together states of one class only, and states of two groups are told apart by a word.
use mathlib.Core.Path.{◌≡◌, refl, sym, ap, ◌∙◌}
use mathlib.Core.Logic.{◌⊎◌, ◌≢◌, inl, inr}
use mathlib.Core.List.{List, [], ◌∷◌}
use mathlib.Core.Bool.{Bool, true, false, cond}
use Prim.Native.Nat.{ℕ, zero, suc, ◌+◌, ◌≤◌, ◌<◌}
use native.Mathlib.Decide.{ℕ_discrete}
use native.Mathlib.Omega.{arith}
use lib.Dec.{eqb}
use lib.ListN.{get_or}
use borrow.Author.Tests.{eqb-true, eqb-false, eq-eqb}
use Rattle.sequences.specs.Tabulate.{tabulate}
use Rattle.sequences.proofs.Loops.{get_d-tab}
use Rattle.meaning.specs.Traces.{Alphabet, Event}
use Rattle.meaning.specs.Monitors.{Over}
use Rattle.moore.specs.Counting.{count_below}
use Rattle.moore.specs.Grouping.{entry, machine, Machine, together, all_events, same_step, first_groups, next_groups, leads, same_below, rounds, grouping, Differ, Grouped, Stable}
use Rattle.sequences.proofs.Pointwise.{all-is}
use Rattle.moore.proofs.Tests.{bool_cases, clash, all_true, events-true, events-are, events-fail, Equivalence, name, name-le, name-same, same_name, name-eq}
use Rattle.moore.proofs.Counting.{count-le, count-some, More, count-more}

-- ---- a list of least members
module _ {same : ℕ → ℕ → Bool} (q : Equivalence same) (n : ℕ) where
  at : (i : ℕ) → i < n → get_or (tabulate n (name same)) i 0 ≡ name same i
  at i l = get_d-tab n (name same) i 0 l

  at-le : (i : ℕ) → i < n → get_or (tabulate n (name same)) i 0 ≤ i
  at-le i l = rw (at i l) (name-le q i)

  at_same : (i : ℕ) → i < n → same (get_or (tabulate n (name same)) i 0) i ≡ true
  at_same i l = rw (at i l) (name-same q i)

  at-is : (i j : ℕ) → i < n → j < n → same i j ≡ true → get_or (tabulate n (name same)) i 0 ≡ get_or (tabulate n (name same)) j 0
  at-is i j l m h = at i l ∙ same_name q i j h ∙ sym (at j m)

  at-eq : (i j : ℕ) → i < n → j < n → get_or (tabulate n (name same)) i 0 ≡ get_or (tabulate n (name same)) j 0 → same i j ≡ true
  at-eq i j l m e = name-eq q i j (sym (at i l) ∙ e ∙ at j m)

  at_own : (i : ℕ) → i < n → get_or (tabulate n (name same)) (get_or (tabulate n (name same)) i 0) 0 ≡ get_or (tabulate n (name same)) i 0
  at_own i l = let x = get_or (tabulate n (name same)) i 0 in let h : x ≤ i = at-le i l in at-is x i (omega arith) l (at_same i l)

together-equivalence : (g : List ℕ) → Equivalence (together g)
together-equivalence g = record {
  self = λ s. eq-eqb (get_or g s 0) (get_or g s 0) refl;
  swap = λ s t h. eq-eqb (get_or g t 0) (get_or g s 0) (sym (eqb-true (get_or g s 0) (get_or g t 0) h));
  join = λ s t u h l. eq-eqb (get_or g s 0) (get_or g u 0) (eqb-true (get_or g s 0) (get_or g t 0) h ∙ eqb-true (get_or g t 0) (get_or g u 0) l);
}

module _ (Σ : Alphabet) (rows : List (List ℕ)) (g : List ℕ) where
  -- what the test of a round says
  pub record Step (i j : ℕ) : Type 0 where
    pub here : get_or g i 0 ≡ get_or g j 0
    pub then : (e : ℕ) → Event Σ e → get_or g (entry rows i e) 0 ≡ get_or g (entry rows j e) 0

  pub step→ : (i j : ℕ) → same_step Σ rows g i j ≡ true → Step i j
  step→ i j h = go (bool_cases (together g i j))
    where
      next : Bool
      next = all_events Σ (λ e. together g (entry rows i e) (entry rows j e))

      go : (together g i j ≡ true) ⊎ (together g i j ≡ false) → Step i j
      go (inl q) = record {
        here = eqb-true (get_or g i 0) (get_or g j 0) q;
        then = λ e l. eqb-true (get_or g (entry rows i e) 0) (get_or g (entry rows j e) 0)
            (events-true Σ (λ e. together g (entry rows i e) (entry rows j e)) (ap (λ (b : Bool). cond b next false) (sym q) ∙ h) e l);
      }
      go (inr q) = absurd (clash h (ap (λ (b : Bool). cond b next false) q))

  →step : (i j : ℕ) → Step i j → same_step Σ rows g i j ≡ true
  →step i j h =
      ap (λ (b : Bool). cond b (all_events Σ (λ e. together g (entry rows i e) (entry rows j e))) false) (eq-eqb (get_or g i 0) (get_or g j 0) h.here)
      ∙ events-are Σ (λ e. together g (entry rows i e) (entry rows j e)) (λ e l. eq-eqb (get_or g (entry rows i e) 0) (get_or g (entry rows j e) 0) (h.then e l))

  pub step-equivalence : Equivalence (same_step Σ rows g)
  step-equivalence = record {
    self = λ s. →step s s (record { here = refl; then = λ e l. refl });
    swap = λ s t h. let p = step→ s t h in →step t s (record { here = sym p.here; then = λ e l. sym (p.then e l) });
    join = λ s t u h k. let p = step→ s t h in let q = step→ t u k in →step s u (record { here = p.here ∙ q.here; then = λ e l. p.then e l ∙ q.then e l });
  }

module _ {Σ : Alphabet} {n : ℕ} {rows : List (List ℕ)} {classes : List ℕ} (M : Machine Σ n rows classes) where
  first-grouped : Grouped Σ n rows classes (first_groups n classes)
  unfolding first_groups
  first-grouped = let q = together-equivalence classes in record {
    least = at-le q n;
    own = at_own q n;
    class = λ i j l m e. eqb-true (get_or classes i 0) (get_or classes j 0) (at-eq q n i j l m e);
    apart = λ i j l m d. record { by = []; word = tt; differ = λ e. d (at-is q n i j l m (eq-eqb (get_or classes i 0) (get_or classes j 0) e)) };
  }

  module _ {g : List ℕ} (G : Grouped Σ n rows classes g) where
    next : List ℕ
    next = next_groups Σ n rows g

    next-step : (i j : ℕ) → i < n → j < n → get_or next i 0 ≡ get_or next j 0 → Step Σ rows g i j
    unfolding next next_groups
    next-step i j l m e = step→ Σ rows g i j (at-eq (step-equivalence Σ rows g) n i j l m e)

    next-own-step : (i : ℕ) → i < n → Step Σ rows g (get_or next i 0) i
    unfolding next next_groups
    next-own-step i l = step→ Σ rows g (get_or next i 0) i (at_same (step-equivalence Σ rows g) n i l)

    -- two states that a round parts
    next-apart : (i j : ℕ) → i < n → j < n → get_or next i 0 ≢ get_or next j 0 → Differ Σ n rows classes i j
    unfolding next next_groups
    next-apart i j l m d = go (ℕ_discrete (get_or g i 0) (get_or g j 0)) (bool_cases (all_events Σ (λ e. together g (entry rows i e) (entry rows j e))))
      where
        go : Dec (get_or g i 0 ≡ get_or g j 0)
            → (all_events Σ (λ e. together g (entry rows i e) (entry rows j e)) ≡ true) ⊎ (all_events Σ (λ e. together g (entry rows i e) (entry rows j e)) ≡ false)
            → Differ Σ n rows classes i j
        go (no p) x = G.apart i j l m p
        go (yes p) (inl x) =
            absurd (d (at-is (step-equivalence Σ rows g) n i j l m (→step Σ rows g i j (record {
              here = p;
              then = λ e h. eqb-true (get_or g (entry rows i e) 0) (get_or g (entry rows j e) 0) (events-true Σ (λ e. together g (entry rows i e) (entry rows j e)) x e h);
            }))))
        go (yes p) (inr x) =
            let f = events-fail Σ (λ e. together g (entry rows i e) (entry rows j e)) x in
            let e = f.0 in
            let a = G.apart (entry rows i e) (entry rows j e) (M.inside i e l f.1) (M.inside j e m f.1) (eqb-false (get_or g (entry rows i e) 0) (get_or g (entry rows j e) 0) f.2) in
            record { by = e ∷ a.by; word = (f.1, a.word); differ = a.differ }

    next-grouped : Grouped Σ n rows classes (next_groups Σ n rows g)
    unfolding next next_groups
    next-grouped = let q = step-equivalence Σ rows g in record {
      least = at-le q n;
      own = at_own q n;
      class = λ i j l m e. G.class i j l m (next-step i j l m e).here;
      apart = next-apart;
    }

    -- a leader stays one
    leads-on : (i : ℕ) → i < n → leads g i ≡ true → leads (next_groups Σ n rows g) i ≡ true
    unfolding next
    leads-on i l h =
        let x = get_or next i 0 in
        let a : get_or g i 0 ≡ i = eqb-true (get_or g i 0) i h in
        let b : get_or g x 0 ≡ get_or g i 0 = (next-own-step i l).here in
        let c : x ≤ i = next-grouped.least i l in
        let d : get_or g x 0 ≤ x = G.least x (omega arith) in
        eq-eqb x i (omega arith)

    -- no new leader: the round changes nothing
    still : ((i : ℕ) → i < n → leads (next_groups Σ n rows g) i ≡ true → leads g i ≡ true) → same_below n (next_groups Σ n rows g) g ≡ true
    unfolding next
    still f = all-is n (λ i. eqb (get_or next i 0) (get_or g i 0)) (λ i l.
        let x = get_or next i 0 in
        let c : x ≤ i = next-grouped.least i l in
        let a : get_or g x 0 ≡ x = eqb-true (get_or g x 0) x (f x (omega arith) (eq-eqb (get_or next x 0) x (next-grouped.own i l))) in
        eq-eqb x (get_or g i 0) (sym a ∙ (next-own-step i l).here))

    -- the round changes nothing: stable
    stable : same_below n (next_groups Σ n rows g) g ≡ true → Stable Σ n rows g
    unfolding next
    stable h = record { keeps = λ i j l m e. (next-step i j l m (same i l ∙ e ∙ sym (same j m))).then }
      where
        same : (i : ℕ) → i < n → get_or next i 0 ≡ get_or g i 0
        same i l = eqb-true (get_or next i 0) (get_or g i 0) (all_true n (λ i. eqb (get_or next i 0) (get_or g i 0)) h i l)

    -- the round changes something: more leaders
    grows : same_below n (next_groups Σ n rows g) g ≡ false → count_below n (leads g) < count_below n (leads (next_groups Σ n rows g))
    grows h = go (ℕ_discrete (count_below n (leads g)) (count_below n (leads (next_groups Σ n rows g)))) (count-more n (leads g) (leads (next_groups Σ n rows g)) leads-on)
      where
        go : Dec (count_below n (leads g) ≡ count_below n (leads (next_groups Σ n rows g)))
            → More n (leads g) (leads (next_groups Σ n rows g)) (count_below n (leads g)) (count_below n (leads (next_groups Σ n rows g)))
            → count_below n (leads g) < count_below n (leads (next_groups Σ n rows g))
        go (yes e) c = absurd (clash (still (c.equal e)) h)
        go (no e) c = omega (arith, c.le)

  rounds-end : (k : ℕ) (g : List ℕ) → Grouped Σ n rows classes g → n < count_below n (leads g) + k → Grouped Σ n rows classes (rounds k Σ n rows g) × Stable Σ n rows (rounds k Σ n rows g)
  unfolding rounds
  rounds-end zero g G h = absurd (omega (arith, count-le n (leads g)))
  rounds-end (suc k) g G h = go (same_below n (next_groups Σ n rows g) g) refl (rounds-end k (next_groups Σ n rows g) (next-grouped G))
    where
      go : (b : Bool) → same_below n (next_groups Σ n rows g) g ≡ b → {r : List ℕ}
          → (n < count_below n (leads (next_groups Σ n rows g)) + k → Grouped Σ n rows classes r × Stable Σ n rows r)
          → Grouped Σ n rows classes (cond b g r) × Stable Σ n rows (cond b g r)
      go true e r = (G, stable G e)
      go false e r = r (omega (arith, grows G e))

  start-enough : n < count_below n (leads (first_groups n classes)) + n
  start-enough =
      let l : get_or (first_groups n classes) 0 0 ≤ 0 = first-grouped.least 0 M.some in
      omega (arith, count-some n (leads (first_groups n classes)) 0 M.some (eq-eqb (get_or (first_groups n classes) 0 0) 0 (omega arith)))

  pub grouping-grouped : Grouped Σ n rows classes (grouping Σ n rows classes)
  unfolding grouping
  grouping-grouped = (rounds-end n (first_groups n classes) first-grouped start-enough).0

  pub grouping-stable : Stable Σ n rows (grouping Σ n rows classes)
  unfolding grouping
  grouping-stable = (rounds-end n (first_groups n classes) first-grouped start-enough).1

  pub machine-over : Over Σ (machine n rows classes)
  machine-over = record { start_in = M.some; next_in = M.inside }
