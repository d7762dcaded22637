-- A label is in `realizable` exactly if a walk leads from it to a closed walk that is fair to every temporal node.
use mathlib.Core.Path.{◌≡◌, refl, sym, ap, ◌∙◌, subst}
use mathlib.Core.Logic.{inl, inr}
use mathlib.Core.Bool.{Bool, true, false}
use mathlib.Core.List.{List}
use Prim.Native.Nat.{ℕ, ◌≤◌, ◌<◌}
use native.Mathlib.Decide.{dec_lt}
use native.Mathlib.Omega.{arith}
use lib.ListN.{length, get_or-eq_default}
use lib.Dec.{T, eqb, eqb→eq, eqb_refl}
use Rattle.sequences.proofs.Loops.{length-tab, get_d-tab}
use Rattle.meaning.specs.Traces.{Alphabet, Event}
use Rattle.ltl.specs.Sets.{on, some_below, every_below, union_below, some_event}
use Rattle.ltl.specs.Closure.{row, closure}
use Rattle.ltl.specs.Realizable.{leads, edge_row, edge_rows, fair_via, fair_around, is_core, core_of, leads_to_core, realizable}
use Rattle.ltl.proofs.Sets.{on-zero, in-set, set-in}
use Rattle.ltl.proofs.Searches.{both, both-cases, only, only-cases, some→, →some, every→, →every, in-union, union-in, some-event→, →some-event, in-events, events-in}
use Rattle.ltl.proofs.Walks.{Walk, one, Way, Closed, Round, join, Over, over→closed, has→over}
use Rattle.ltl.proofs.Closure.{Related, closure-sound, closure-complete}

-- from x by the event e to y
pub record Edge (Σ : Alphabet) (n : ℕ) (before : ℕ → ℕ → ℕ) (x e y : ℕ) : Type 0 where
  pub event : Event Σ e
  pub to : y < n
  pub is : before e y ≡ x

-- the edge is fair to the temporal node j
abbrev pub Fair : (ℕ → ℕ → ℕ) → ℕ → ℕ → ℕ → ℕ → Type 0
Fair fair j x e y = T (on (fair e y) j)

module _ (Σ : Alphabet) (n : ℕ) (before fair : ℕ → ℕ → ℕ) (m : ℕ) (before-lt : (e y : ℕ) → Event Σ e → y < n → before e y < n) where
  abbrev pub E : ℕ → ℕ → ℕ → Type 0
  E x e y = Edge Σ n before x e y

  abbrev rows : List ℕ
  rows = edge_rows Σ n before

  abbrev closed : List ℕ
  closed = closure n rows

  related-edge : (x e y : ℕ) → E x e y → Related rows x y
  related-edge x e y s =
      subst (λ (r : ℕ). T (on r y)) (sym (get_d-tab n (edge_row Σ n before) x 0 (subst (λ (z : ℕ). z < n) s.is (before-lt e y s.event s.to))))
      (set-in n (λ y. some_event Σ (λ e. eqb (before e y) x)) y s.to (→some-event Σ (λ e. eqb (before e y) x) e s.event (rw s.is (eqb_refl x))))

  edge-related : (x y : ℕ) → Related rows x y → Walk E x y
  edge-related x y a = go (dec_lt x n)
    where
      go : Dec (x < n) → Walk E x y
      go (yes h) =
          let p = in-set n (λ y. some_event Σ (λ e. eqb (before e y) x)) y (subst (λ (r : ℕ). T (on r y)) (get_d-tab n (edge_row Σ n before) x 0 h) a) in
          let s = some-event→ Σ (λ e. eqb (before e y) x) p.1 in
          one (record { event = s.possible; to = p.0; is = eqb→eq (before s.event y) x s.test })
      go (no h) =
          let l : length rows ≤ x = rw length-tab (omega arith) in
          absurd (subst T (ap (λ (r : ℕ). on r y) (get_or-eq_default rows 0 l) ∙ on-zero y) a)

  walk_of : (x y : ℕ) → Related closed x y → Walk E x y
  walk_of x y a = closure-sound E rows n edge-related x y a

  related-of : {x y : ℕ} → Walk E x y → Related closed x y
  related-of w = closure-complete E rows n related-edge (λ x e y s. s.to) w

  leads→ : (x y : ℕ) → T (leads closed x y) → Way E x y
  leads→ x y t = go (eqb x y) (eqb→eq x y) t
    where
      go : (b : Bool) → (T b → x ≡ y) → T (elim b [ true ↦ true | false ↦ on (row closed x) y ]) → Way E x y
      go true f t = inl (f tt)
      go false f t = inr (walk_of x y t)

  →leads : (x y : ℕ) → Way E x y → T (leads closed x y)
  →leads x y (inl p) = subst (λ (z : ℕ). T (leads closed x z)) p (go (eqb x x) (eqb_refl x))
    where
      go : (b : Bool) → T b → T (elim b [ true ↦ true | false ↦ on (row closed x) x ])
      go true t = tt
      go false t = absurd t
  →leads x y (inr w) = go (eqb x y)
    where
      go : (b : Bool) → T (elim b [ true ↦ true | false ↦ on (row closed x) y ])
      go true = tt
      go false = related-of w

  around→ : (c j : ℕ) → T (on (fair_around Σ n before fair closed c) j) → Closed E (Fair fair j) c
  around→ c j t =
      let s = in-events Σ (λ e. union_below n (fair_via Σ n before fair closed c e)) j t in
      let e = s.event in
      let v = in-union n (fair_via Σ n before fair closed c e) j s.test in
      let y = v.index in
      let p = only-cases (leads closed c (before e y)) (elim (leads closed y c) [ true ↦ fair e y | false ↦ 0 ]) j v.test in
      let q = only-cases (leads closed y c) (fair e y) j p.1 in
      over→closed (Fair fair j) (record {
        from = before e y;
        event = e;
        to = y;
        edge = record { event = s.possible; to = v.below; is = refl };
        has = q.1;
        before = leads→ c (before e y) p.0;
        after = leads→ y c q.0;
      })

  →around : (c j : ℕ) → Over E (Fair fair j) c c → T (on (fair_around Σ n before fair closed c) j)
  →around c j o =
      let e = o.event in let y = o.to in
      events-in Σ (λ e. union_below n (fair_via Σ n before fair closed c e)) j e o.edge.event
      (union-in n (fair_via Σ n before fair closed c e) j y o.edge.to
      (only (leads closed c (before e y)) (elim (leads closed y c) [ true ↦ fair e y | false ↦ 0 ]) j
      (→leads c (before e y) (subst (λ (z : ℕ). Way E c z) (sym o.edge.is) o.before))
      (only (leads closed y c) (fair e y) j (→leads y c o.after) o.has)))

  core→ : (c : ℕ) → T (is_core Σ n before fair m closed c) → Round E (Fair fair) m c
  core→ c t =
      let p = both-cases (on (row closed c) c) (every_below m (λ j. on (fair_around Σ n before fair closed c) j)) t in
      join (walk_of c c p.0) m (λ j l. around→ c j (every→ m (λ j. on (fair_around Σ n before fair closed c) j) p.1 j l))

  →core : (c : ℕ) → Round E (Fair fair) m c → T (is_core Σ n before fair m closed c)
  →core c r =
      both (on (row closed c) c) (every_below m (λ j. on (fair_around Σ n before fair closed c) j)) (related-of r.walk)
      (→every m (λ j. on (fair_around Σ n before fair closed c) j) (λ j l. →around c j (has→over (Fair fair j) r.walk (r.has j l))))

  abbrev core : ℕ
  core = core_of Σ n before fair m closed

  -- a way from x to a closed walk that is fair to every temporal node
  pub record Leads (x : ℕ) : Type 0 where
    pub core : ℕ
    pub round : Round E (Fair fair) m core
    pub way : Way E x core

  pub realizable→ : (x : ℕ) → T (on (realizable Σ n before fair m) x) → (x < n) × Leads x
  unfolding realizable
  realizable→ x t =
      let p = in-set n (λ x. some_below n (leads_to_core closed core x)) x t in
      let s = some→ n (leads_to_core closed core x) p.1 in
      let q = both-cases (on core s.index) (leads closed x s.index) s.test in (
        p.0,
        record {
          core = s.index;
          round = core→ s.index (in-set n (is_core Σ n before fair m closed) s.index q.0).1;
          way = leads→ x s.index q.1;
        },
      )

  pub →realizable : (x c : ℕ) → x < n → c < n → Round E (Fair fair) m c → Way E x c → T (on (realizable Σ n before fair m) x)
  unfolding realizable
  →realizable x c h l r w =
      set-in n (λ x. some_below n (leads_to_core closed core x)) x h
      (→some n (leads_to_core closed core x) c l
      (both (on core c) (leads closed x c) (set-in n (is_core Σ n before fair m closed) c l (→core c r)) (→leads x c w)))
