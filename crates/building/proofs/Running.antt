-- Some building, a run from state 0 over any events shows demand 2's verdict and counts right, and so does stepping event by event.
use mathlib.Core.Path.{◌≡◌, refl, sym, ap, ◌∙◌, subst}
use mathlib.Core.Logic.{◌↔◌}
use mathlib.Core.List.{List, [], ◌∷◌}
use mathlib.Core.Bool.{Bool, true, false, cond, not}
use Prim.Native.Nat.{ℕ, zero, suc, ◌+◌, ◌≤◌, ◌<◌}
use native.Mathlib.Omega.{arith}
use lib.ListN.{length, take, get_or}
use borrow.Author.Tests.{lt-ltb, le-ltb, eq-eqb}
use Rattle.sequences.proofs.Loops.{least-is}
use Rattle.meaning.specs.Traces.{Alphabet, is_event, Word}
use Rattle.meaning.specs.Verdicts.{Property, Judged}
use Rattle.meaning.specs.Monitors.{Monitor, follow, shows}
use Rattle.meaning.specs.RuleFiles.{alphabet_of, property_of}
use Rattle.meaning.specs.TableFiles.{is_table, alphabet_in, signals_in, states_in, successor, monitor_of}
use Rattle.meaning.specs.Runs.{decides, decided_from, end_of, first_bad, ran_of, run_of}
use Rattle.meaning.specs.Openings.{Opening, state_of, carried, own_run, run_from}
use Rattle.meaning.specs.declared.Verdict.{Verdict}
use Rattle.meaning.specs.declared.Verdict.TheVariants.{Undecided, Satisfied, Violated, Moot}
use Rattle.meaning.specs.declared.Refusal.TheVariants.{WrongTable, WrongOpening}
use Rattle.table_layout.proofs.Form.{event-test, test-event, table-header, states-some, table-inside}
use Rattle.building.specs.Build.{BuiltRight}
use Rattle.building.specs.Running.{CountRight, RunRight, StepRight, steps_from, steps}
use Rattle.std.proofs.Common.{Result, Ok, Err, Option, Some, None}
use Rattle.meaning.specs.declared.Arrival.{Arrival}
use Rattle.meaning.specs.declared.Refusal.{Refusal}

-- ---- the count of a run of any monitor

abbrev verdict_after : Monitor → ℕ → List ℕ → Bool
verdict_after m s w = decides (m.verdict (follow m s w))

abbrev Counted : Monitor → ℕ → ℕ → List ℕ → Option ℕ → Type 0
Counted m n s es (Some j) = (i : ℕ) × (j ≡ n + i) × (i ≤ length es) × (verdict_after m s (take i es) ≡ true) × ((k : ℕ) → k < i → verdict_after m s (take k es) ≡ false)
Counted m n s es None = (k : ℕ) → k ≤ length es → verdict_after m s (take k es) ≡ false

counted_next : (m : Monitor) (n s e : ℕ) (es : List ℕ) (d : Option ℕ) → decides (m.verdict s) ≡ false → Counted m (suc n) (m.next s e) es d → Counted m n s (e ∷ es) d
counted_next m n s e es (Some j) f (i, p, l, t, b) = (suc i, omega arith, omega arith, t, below)
  where
    below : (k : ℕ) → k < suc i → verdict_after m s (take k (e ∷ es)) ≡ false
    below zero h = f
    below (suc k) h = b k (omega arith)
counted_next m n s e es None f b = below
  where
    below : (k : ℕ) → k ≤ suc (length es) → verdict_after m s (take k (e ∷ es)) ≡ false
    below zero h = f
    below (suc k) h = b k (omega arith)

counted : (m : Monitor) (n s : ℕ) (es : List ℕ) → Counted m n s es (decided_from m n s es)
unfolding decided_from
counted m n s [] = go (decides (m.verdict s)) refl
  where
    go : (b : Bool) → decides (m.verdict s) ≡ b → Counted m n s [] (cond b (Some n) None)
    go true q = (0, omega arith, omega arith, q, λ k h. absurd (omega arith))
    go false q = below
      where
        below : (k : ℕ) → k ≤ 0 → verdict_after m s (take k []) ≡ false
        below zero h = q
        below (suc k) h = absurd (omega arith)
counted m n s (e ∷ es) = go (decides (m.verdict s)) refl (counted m (suc n) (m.next s e) es)
  where
    go : (b : Bool) → decides (m.verdict s) ≡ b → Counted m (suc n) (m.next s e) es (decided_from m (suc n) (m.next s e) es)
        → Counted m n s (e ∷ es) (cond b (Some n) (decided_from m (suc n) (m.next s e) es))
    go true q c = (0, omega arith, omega arith, q, λ k h. absurd (omega arith))
    go false q c = counted_next m n s e es (decided_from m (suc n) (m.next s e) es) q c

-- ---- words

all-good : (Σ : Alphabet) (es : List ℕ) → Word Σ es → (k : ℕ) → k < length es → not (is_event Σ (get_or es k 0)) ≡ false
all-good Σ [] a k h = absurd (omega arith)
all-good Σ (e ∷ es) a zero h = ap not (event-test Σ e a.0)
all-good Σ (e ∷ es) a (suc k) h = all-good Σ es a.1 k (omega arith)

none-bad : (Σ : Alphabet) (es : List ℕ) → Word Σ es → first_bad Σ es ≡ length es
none-bad Σ es a = least-is (length es) (λ i. not (is_event Σ (get_or es i 0))) (length es) (omega arith) (all-good Σ es a) (λ h. absurd (omega arith))

-- words over alphabets with the same events
pub word_same : (Σ Σ' : Alphabet) → ((e : ℕ) → is_event Σ' e ≡ is_event Σ e) → (es : List ℕ) → Word Σ es → Word Σ' es
word_same Σ Σ' q [] a = tt
word_same Σ Σ' q (e ∷ es) a = (test-event Σ' e (q e ∙ event-test Σ e a.0), word_same Σ Σ' q es a.1)

word-take : (Σ : Alphabet) (k : ℕ) (es : List ℕ) → Word Σ es → Word Σ (take k es)
word-take Σ zero es a = tt
word-take Σ (suc k) [] a = tt
word-take Σ (suc k) (e ∷ es) a = (a.0, word-take Σ k es a.1)

undecided : (v : Verdict) → decides v ≡ false → v ≡ Undecided
undecided Undecided q = refl
undecided Satisfied q = let z : ◌≡◌ {A = ℕ} 0 1 = cc in absurd (omega arith)
undecided Violated q = let z : ◌≡◌ {A = ℕ} 0 1 = cc in absurd (omega arith)
undecided Moot q = let z : ◌≡◌ {A = ℕ} 0 1 = cc in absurd (omega arith)

-- ---- the run

module _ (Σ : Alphabet) (L : Property) (m : Monitor) (start : m.start ≡ 0) (says : (w : List ℕ) → Word Σ w → (v : Verdict) → (shows m w ≡ v) ↔ Judged Σ L w v) (es : List ℕ) (a : Word Σ es) where
  from_start : (k : ℕ) → verdict_after m 0 (take k es) ≡ decides (shows m (take k es))
  from_start k = ap (λ (s : ℕ). decides (m.verdict (follow m s (take k es)))) (sym start)

  not_yet : (k : ℕ) → verdict_after m 0 (take k es) ≡ false → Judged Σ L (take k es) Undecided
  not_yet k q = (says (take k es) (word-take Σ k es a) Undecided).0 (undecided (shows m (take k es)) (sym (from_start k) ∙ q))

  count-right : (d : Option ℕ) → Counted m 0 0 es d → CountRight Σ L es d
  count-right (Some j) (i, p, l, t, b) =
      let e : j ≡ i = omega arith in
      subst (λ (n : ℕ). CountRight Σ L es (Some n)) (sym e)
      (l, λ u. (let q : shows m (take i es) ≡ Undecided = (says (take i es) (word-take Σ i es a) Undecided).1 u in let f = sym t ∙ from_start i ∙ ap decides q in let z : ◌≡◌ {A = ℕ} 0 1 = cc in omega arith), λ k h. not_yet k (b k h))
  count-right None b = λ k h. not_yet k (b k h)

  end-right : RunRight Σ L es (end_of m 0 es)
  end-right = ((says es a (m.verdict (follow m 0 es))).0 (ap (λ (s : ℕ). m.verdict (follow m s es)) start), count-right (decided_from m 0 0 es) (counted m 0 0 es))

  -- where the run takes the same events
  run-right : (own : Alphabet) → ((e : ℕ) → is_event own e ≡ is_event Σ e) → 0 < m.states → RunRight Σ L es (ran_of m own 0 es)
  run-right own q h = rw (lt-ltb 0 m.states h, none-bad own es (word_same Σ own q es a), le-ltb (length es) (length es) (omega arith)) end-right

-- the second theorem: building and running together
pub built-run : (file table : List ℕ) (b : BuiltRight file table) (es : List ℕ) → Word (alphabet_of b.rule) es
    → RunRight (alphabet_of b.rule) (property_of b.rule) es (run_of table 0 es)
built-run file table b es a =
    rw b.demand_3.form
    (run-right (alphabet_of b.rule) (property_of b.rule) (monitor_of table) refl (b.demand_2.verdicts table b.built) es a
    (alphabet_in table (signals_in table)) b.demand_3.events (states-some table (table-header table b.demand_3.form)))

-- ---- stepping

-- a step over a table, whose successors are its states
module _ (t : List ℕ) (form : is_table t ≡ true) where
  -- a run over events that can happen is not refused
  pub word-run : (s : ℕ) (es : List ℕ) → s < states_in t → Word (alphabet_in t (signals_in t)) es → run_of t s es ≡ end_of (monitor_of t) s es
  word-run s es l a = rw (form, lt-ltb s (states_in t) l, none-bad (alphabet_in t (signals_in t)) es a, le-ltb (length es) (length es) (omega arith))

  -- where a run stands, in the state s, with its verdict
  abbrev standing : ℕ → Option ℕ → Result (Arrival ℕ) Refusal
  standing s d = Ok (record { state = s; verdict = (monitor_of t).verdict s; decided = d })

  -- stepping ends where the events lead, with the verdict of that state
  steps-end : (s : ℕ) (d : Option ℕ) (es : List ℕ) → s < states_in t → Word (alphabet_in t (signals_in t)) es
      → (d' : Option ℕ) × (steps_from t (standing s d) es ≡ standing (follow (monitor_of t) s es) d')
  unfolding steps_from
  steps-end s d [] l a = (d, refl)
  steps-end s d (e ∷ es) l a =
      let q = word-run s (e ∷ []) l (a.0, tt) in
      let h = steps-end (successor t (signals_in t) s e) (decided_from (monitor_of t) 0 s (e ∷ [])) es (table-inside t form s e l a.0) a.1 in
      (h.0, ap (λ (r : Result (Arrival ℕ) Refusal). steps_from t r es) q ∙ h.1)

-- ---- an opening

-- from a state that carries the opening's number, whichever opening gave it, a run is that of the table at hand
pub own-run : (o : Opening) → is_table o.table ≡ true → (s : ℕ) (es : List ℕ) → run_from o (state_of o.number s) es ≡ carried o.number (run_of o.table s es)
own-run o form s es =
    ap (λ (b : Bool). cond b (own_run o.number (state_of o.number s) (run_of o.table s es)) (Err WrongTable)) form
    ∙ ap (λ (b : Bool). cond b (carried o.number (run_of o.table s es)) (Err (WrongOpening 0))) (eq-eqb o.number o.number refl)

-- ---- stepping through a list

-- the third theorem: stepping event by event is never refused, and after every list the last step shows demand 2's verdict
pub built-steps : (file table : List ℕ) (b : BuiltRight file table) (es : List ℕ) → Word (alphabet_of b.rule) es
    → StepRight (alphabet_of b.rule) (property_of b.rule) es (steps table es)
built-steps file table b es a =
    let form = b.demand_3.form in
    let some = states-some table (table-header table form) in
    let word = word_same (alphabet_of b.rule) (alphabet_in table (signals_in table)) b.demand_3.events es a in
    let end = steps-end table form 0 (decided_from (monitor_of table) 0 0 []) es some word in
    let q : steps table es ≡ standing table form (follow (monitor_of table) 0 es) end.0 = ap (λ (r : Result (Arrival ℕ) Refusal). steps_from table r es) (word-run table form 0 [] some tt) ∙ end.1 in
    subst (λ (r : Result (Arrival ℕ) Refusal). StepRight (alphabet_of b.rule) (property_of b.rule) es r) (sym q)
    ((b.demand_2.verdicts table b.built es a (shows (monitor_of table) es)).0 refl)
