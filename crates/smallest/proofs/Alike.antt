-- Rules that say the same: alphabets with the same events, and properties of the same traces. They have the same verdicts and the same remaining
-- properties, so a residual system of one is one of the other, and their tables are equal.
use mathlib.Core.Path.{◌≡◌, refl, sym, ap, ap₂, ◌∙◌, subst}
use mathlib.Core.Logic.Iff
use mathlib.Core.Logic.{◌↔◌}
use mathlib.Core.List.{List, [], ◌∷◌, ◌++◌, map}
use mathlib.Core.Bool.{Bool, cond}
use Prim.Native.Nat.{ℕ, zero, suc, ◌^◌, ◌<◌}
use native.Mathlib.Omega.{arith}
use lib.Dec.{T}
use Rattle.sequences.specs.Tabulate.{tabulate, up_to}
use Rattle.meaning.specs.Traces.{Alphabet, Event, Word, Lasso, prepend, Continuation}
use Rattle.meaning.specs.Verdicts.{Property, NoneSatisfies, AllSatisfy, NeverDecided, Judged, SameResidual, MoreThan}
use Rattle.meaning.specs.Monitors.{Monitor, Over, keep, events, newly_met, walk, BreadthFirst}
use Rattle.meaning.specs.declared.Verdict.{Verdict}
use Rattle.meaning.specs.declared.Verdict.TheVariants.{Undecided, Satisfied, Violated, Moot}
use Rattle.residuals.specs.System.{System}
use Rattle.moore.specs.Reduced.{Reduced}
use Rattle.table_bytes.proofs.RoundTrip.{Fitting, same-events}
use Rattle.smallest.specs.Table.{Outcome, Table, TooMany, table_of}
use Rattle.smallest.proofs.Tables.{OfSignals, Written}
use Rattle.smallest.proofs.Smallest.{Smallest, table-smallest, too_many}
use Rattle.smallest.proofs.Canonical.{tables-equal}

-- the same events can happen, and the same traces satisfy both
pub record Alike (Σ Σ' : Alphabet) (L L' : Property) : Type 0 where
  pub width : Σ.width ≡ Σ'.width
  pub possible : (e : ℕ) → e < Σ.width → Σ.possible e ≡ Σ'.possible e
  pub on : (ρ : Lasso) → L ρ ↔ L' ρ

-- over one alphabet
pub alike : (Σ : Alphabet) {L L' : Property} → ((ρ : Lasso) → L ρ ↔ L' ρ) → Alike Σ Σ L L'
alike Σ h = record { width = refl; possible = λ e l. refl; on = h }

pub turned : {Σ Σ' : Alphabet} {L L' : Property} → Alike Σ Σ' L L' → Alike Σ' Σ L' L
turned {Σ} {Σ'} a = record {
  width = sym a.width;
  possible = λ e l. sym (a.possible e (subst (λ (n : ℕ). e < n) (sym a.width) l));
  on = λ ρ. Iff.symm (a.on ρ);
}

-- ---- lists and traces

pub event-to : {Σ Σ' : Alphabet} {L L' : Property} → Alike Σ Σ' L L' → (e : ℕ) → Event Σ e → Event Σ' e
event-to a e h = (subst (λ (n : ℕ). e < n) a.width h.0, subst T (a.possible e h.0) h.1)

word-to : {Σ Σ' : Alphabet} {L L' : Property} → Alike Σ Σ' L L' → (w : List ℕ) → Word Σ w → Word Σ' w
word-to a [] h = tt
word-to a (e ∷ w) h = (event-to a e h.0, word-to a w h.1)

trace-to : {Σ Σ' : Alphabet} {L L' : Property} → Alike Σ Σ' L L' → (ρ : Lasso) → Continuation Σ ρ → Continuation Σ' ρ
trace-to a ρ c i = event-to a _ (c i)

-- ---- verdicts and remaining properties

none-to : {Σ Σ' : Alphabet} {L L' : Property} → Alike Σ Σ' L L' → (w : List ℕ) → NoneSatisfies Σ L w → NoneSatisfies Σ' L' w
unfolding NoneSatisfies
none-to a w h ρ c x = h ρ (trace-to (turned a) ρ c) ((a.on (prepend w ρ)).1 x)

all-to : {Σ Σ' : Alphabet} {L L' : Property} → Alike Σ Σ' L L' → (w : List ℕ) → AllSatisfy Σ L w → AllSatisfy Σ' L' w
unfolding AllSatisfy
all-to a w h ρ c = (a.on (prepend w ρ)).0 (h ρ (trace-to (turned a) ρ c))

same-to : {Σ Σ' : Alphabet} {L L' : Property} → Alike Σ Σ' L L' → (u v : List ℕ) → SameResidual Σ L u v → SameResidual Σ' L' u v
unfolding SameResidual
same-to a u v h ρ c = Iff.trans (Iff.symm (a.on (prepend u ρ))) (Iff.trans (h ρ (trace-to (turned a) ρ c)) (a.on (prepend v ρ)))

module _ {Σ Σ' : Alphabet} {L L' : Property} (a : Alike Σ Σ' L L') where
  none-same : (w : List ℕ) → NoneSatisfies Σ L w ↔ NoneSatisfies Σ' L' w
  none-same w = (none-to a w, none-to (turned a) w)

  all_same : (w : List ℕ) → AllSatisfy Σ L w ↔ AllSatisfy Σ' L' w
  all_same w = (all-to a w, all-to (turned a) w)

  never-same : (w : List ℕ) → NeverDecided Σ L w ↔ NeverDecided Σ' L' w
  unfolding NeverDecided
  never-same w = (λ h v b. (neither v).0 (h v (word-to (turned a) v b)), λ h v b. (neither v).1 (h v (word-to a v b)))
    where
      neither : (v : List ℕ) → ((¬ NoneSatisfies Σ L (w ++ v)) × (¬ AllSatisfy Σ L (w ++ v))) ↔ ((¬ NoneSatisfies Σ' L' (w ++ v)) × (¬ AllSatisfy Σ' L' (w ++ v)))
      neither v = Iff.and (Iff.not (none-same (w ++ v))) (Iff.not (all_same (w ++ v)))

  pub judged-same : (w : List ℕ) (v : Verdict) → Judged Σ L w v ↔ Judged Σ' L' w v
  judged-same w Violated = none-same w
  judged-same w Satisfied = all_same w
  judged-same w Moot = never-same w
  judged-same w Undecided =
      let n = Iff.not (none-same w) in
      let f = Iff.not (all_same w) in
      let m = Iff.not (never-same w) in
      (λ h. (n.0 h.0, f.0 h.1, m.0 h.2), λ h. (n.1 h.0, f.1 h.1, m.1 h.2))

  residuals-same : (u v : List ℕ) → SameResidual Σ L u v ↔ SameResidual Σ' L' u v
  residuals-same u v = (same-to a u v, same-to (turned a) u v)

  pub more_same : {n : ℕ} → MoreThan Σ L n → MoreThan Σ' L' n
  more_same m = record {
    list = m.list;
    word = λ i l. word-to a (m.list i) (m.word i l);
    differ = λ i j l k s. m.differ i j l k ((residuals-same (m.list i) (m.list j)).1 s);
  }

  pub system-same : System Σ L → System Σ' L'
  system-same S = record {
    Key = S.Key;
    start = S.start;
    step = S.step;
    same = S.same;
    empty = S.empty;
    full = S.full;
    same_is = λ u v p q. Iff.trans (S.same_is u v (word-to (turned a) u p) (word-to (turned a) v q)) (residuals-same u v);
    empty_is = λ w p. Iff.trans (S.empty_is w (word-to (turned a) w p)) (none-same w);
    full_is = λ w p. Iff.trans (S.full_is w (word-to (turned a) w p)) (all_same w);
  }

-- ---- monitors

keep_same : (n : ℕ) (p q : ℕ → Bool) (f : ℕ → ℕ) → ((i : ℕ) → i < n → p (f i) ≡ q (f i)) → keep p (tabulate n f) ≡ keep q (tabulate n f)
keep_same zero p q f h = refl
keep_same (suc n) p q f h =
    let rest = keep_same n p q (λ i. f (suc i)) (λ i l. h (suc i) (omega arith)) in
    ap₂ (λ (b : Bool) (l : List ℕ). cond b (f 0 ∷ l) l) (h 0 (omega arith)) rest

module _ {Σ Σ' : Alphabet} {L L' : Property} (a : Alike Σ Σ' L L') where
  over-to : {m : Monitor} → Over Σ m → Over Σ' m
  over-to o = record { start_in = o.start_in; next_in = λ s e l h. o.next_in s e l (event-to (turned a) e h) }

  events-same : events Σ ≡ events Σ'
  events-same = keep_same Σ.width Σ.possible Σ'.possible (λ i. i) a.possible ∙ ap (λ (n : ℕ). keep Σ'.possible (up_to n)) a.width

  walk_same : (m : Monitor) (k : ℕ) (queue met : List ℕ) → walk Σ m k queue met ≡ walk Σ' m k queue met
  walk_same m zero queue met = refl
  walk_same m (suc k) [] met = refl
  walk_same m (suc k) (s ∷ queue) met =
      let new = newly_met met (map (m.next s) (events Σ)) in
      walk_same m k (queue ++ new) (met ++ new)
      ∙ ap (λ (es : List ℕ). let new = newly_met met (map (m.next s) es) in walk Σ' m k (queue ++ new) (met ++ new)) events-same

  order-to : (m : Monitor) → BreadthFirst Σ m → BreadthFirst Σ' m
  unfolding BreadthFirst
  order-to m b = sym (walk_same m m.states (m.start ∷ []) (m.start ∷ [])) ∙ b

  reduced-to : {m : Monitor} → Reduced Σ m → Reduced Σ' m
  reduced-to r = record {
    reached = record { access = r.reached.access; word = λ s l. word-to a (r.reached.access s) (r.reached.word s l); arrives = r.reached.arrives };
    apart = λ s t l k q. let x = r.apart s t l k q in record { by = x.by; word = word-to a x.by x.word; differ = x.differ };
  }

  -- ---- tables
  module _ {P : ℕ} (p : OfSignals Σ P) where
    below : {e : ℕ} → e < 2 ^ P → e < Σ.width
    below {e} l = subst (λ (n : ℕ). e < n) (sym p.width) l

    signals-to : OfSignals Σ' P
    signals-to = record {
      signals = p.signals;
      width = sym a.width ∙ p.width;
      live = record { event = p.live.event; possible = event-to a p.live.event p.live.possible };
    }

    written-to : {t : List ℕ} → Written Σ P t → Written Σ' P t
    written-to W = record {
      states = W.states;
      verdicts = W.verdicts;
      rows = W.rows;
      fits = record {
        signals_low = f.signals_low;
        signals_high = f.signals_high;
        states-low = f.states-low;
        states-high = f.states-high;
        verdict = f.verdict;
        next = λ s e l m q. f.next s e l m (a.possible e (below m) ∙ q);
        event = f.event;
        event-low = f.event-low;
        event-possible = sym (a.possible f.event (below f.event-low)) ∙ f.event-possible;
      };
      is = W.is ∙ same-events Σ Σ' P W.states W.verdicts W.rows (λ e m. a.possible e (below m));
    }
      where
        f : Fitting Σ P W.states W.verdicts W.rows
        f = W.fits

    smallest-to : {t : List ℕ} → Smallest Σ P L t → Smallest Σ' P L' t
    smallest-to h = record {
      written = written-to h.written;
      over = over-to h.over;
      order = order-to _ h.order;
      reduced = reduced-to h.reduced;
      judged = λ w b v. Iff.trans (h.judged w (word-to (turned a) w b) v) (judged-same a w v);
      few = λ m. h.few (more_same (turned a) m);
    }

    -- a table of one, and too many remaining properties of the other: not both
    never-apart : (S : System Σ L) (S' : System Σ' L') (t : List ℕ) → table_of S P ≡ Table t → table_of S' P ≡ TooMany → ⊥
    never-apart S S' t q q' = (table-smallest p S t q).few (more_same (turned a) (too_many signals-to S' q'))

    never-apart' : (S : System Σ L) (S' : System Σ' L') (t : List ℕ) → table_of S P ≡ TooMany → table_of S' P ≡ Table t → ⊥
    never-apart' S S' t q q' = (table-smallest signals-to S' t q').few (more_same a (too_many p S q))

    pub tables-same : (S : System Σ L) (S' : System Σ' L') → table_of S P ≡ table_of S' P
    tables-same S S' = go (table_of S P) (table_of S' P) refl refl
      where
        go : (x x' : Outcome) → table_of S P ≡ x → table_of S' P ≡ x' → x ≡ x'
        go (Table t) (Table t') q q' = ap Table ((tables-equal signals-to (smallest-to (table-smallest p S t q)) (table-smallest signals-to S' t' q')).1 (λ w b v. (λ x. x, λ x. x)))
        go (Table t) TooMany q q' = absurd (never-apart S S' t q q')
        go TooMany (Table t) q q' = absurd (never-apart' S S' t q q')
        go TooMany TooMany q q' = refl
