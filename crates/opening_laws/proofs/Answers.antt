-- What a run of one opening comes to, from any state over any list. Nothing else looks into its definition.
--     Ends, ends                where it arrives, if it is not refused
--     foreign-if, foreign-not   refused by 24 exactly if the state carries another number
--     own-taken, own-refused    from a state of the table with the opening's number, refused for what is read alone, by 12
use mathlib.Core.Path.{◌≡◌, refl, sym, ap, ◌∙◌}
use mathlib.Core.List.{List, [], ◌∷◌}
use mathlib.Core.Bool.{Bool, true, false, cond}
use Prim.Native.Nat.{ℕ, zero, suc, ◌<◌}
use native.Mathlib.Omega.{arith}
use borrow.Author.Tests.{lt-ltb, eq-eqb, ne_eqb, eqb-true, ltb-false}
use lib.Dec.{eqb, ltb}
use lib.ListN.{length, get_or}
use Rattle.meaning.specs.Traces.{Alphabet, is_event, Word}
use Rattle.meaning.specs.Monitors.{Monitor, follow}
use Rattle.meaning.specs.TableFiles.{is_table, alphabet_in, signals_in, states_in, successor, monitor_of}
use Rattle.meaning.specs.Runs.{decided_from, end_of, first_bad, run_of}
use Rattle.meaning.specs.Refusals.{code_of}
use Rattle.meaning.specs.Openings.{Opening, state_of, carried, run_from}
use Rattle.meaning.specs.declared.Refusal.{Refusal}
use Rattle.meaning.specs.declared.Refusal.TheVariants.{WrongEvent, WrongState, WrongOpening}
use Rattle.meaning.specs.declared.Verdict.{Verdict}
use Rattle.meaning.specs.declared.State.{State}
use Rattle.table_layout.proofs.Form.{test-event, table-inside}
use Rattle.event_lists.proofs.Laws.{all-events}
use Rattle.building.proofs.Running.{word-run, own-run}
use Rattle.std.proofs.Common.{Result, Ok, Err}
use Rattle.meaning.specs.declared.Arrival.{Arrival}

-- a list of events that all can happen, by the test
word_of : (Σ : Alphabet) (es : List ℕ) → ((i : ℕ) → i < length es → is_event Σ (get_or es i 0) ≡ true) → Word Σ es
word_of Σ [] h = tt
word_of Σ (e ∷ es) h = (test-event Σ e (h zero (omega arith)), word_of Σ es (λ i l. h (suc i) (omega arith)))

-- the number of a refusal, and 0 where there is none
abbrev number_of : Result (Arrival State) Refusal → ℕ
number_of (Ok a) = 0
number_of (Err x) = (code_of x).0

module _ (o : Opening) (form : is_table o.table ≡ true) where
  abbrev pub Σ : Alphabet
  Σ = alphabet_in o.table (signals_in o.table)

  abbrev pub m : Monitor
  m = monitor_of o.table

  -- the way from a state of the table stays in it
  pub inside : (s : ℕ) (es : List ℕ) → s < states_in o.table → Word Σ es → follow m s es < states_in o.table
  inside s [] l a = l
  inside s (e ∷ es) l a = inside (successor o.table (signals_in o.table) s e) es (table-inside o.table form s e l a.0) a.1

  module _ (s : State) (es : List ℕ) where
    -- 24, 13, 12, and where it ends
    answer : (a b c : Bool) → eqb s.opening o.number ≡ a → ltb s.number (states_in o.table) ≡ b → ltb (first_bad Σ es) (length es) ≡ c
        → run_from o s es
        ≡ cond a
        (carried o.number (cond b (cond c (Err (WrongEvent (first_bad Σ es))) (end_of m s.number es)) (Err WrongState)))
        (Err (WrongOpening 0))
    answer a b c p x y = rw (form, p, x, y)

    -- by the cases of the three tests
    by_tests : {A : Type 0}
        → ((a b c : Bool) → eqb s.opening o.number ≡ a → ltb s.number (states_in o.table) ≡ b → ltb (first_bad Σ es) (length es) ≡ c → A) → A
    by_tests f = f (eqb s.opening o.number) (ltb s.number (states_in o.table)) (ltb (first_bad Σ es) (length es)) refl refl refl

    -- ---- not refused

    -- where it arrives
    abbrev arrival : Arrival State
    arrival = record { state = state_of o.number (follow m s.number es); verdict = m.verdict (follow m s.number es); decided = decided_from m 0 s.number es }

    pub record Ends (r : State) (v : Verdict) : Type 0 where
      pub own : s.opening ≡ o.number
      pub word : Word Σ es
      pub state : r ≡ state_of o.number (follow m s.number es)
      pub shown : v ≡ m.verdict (follow m s.number es)

    pub ends : (r : Arrival State) → run_from o s es ≡ Ok r → Ends r.state r.verdict
    ends r q = by_tests go
      where
        go : (a b c : Bool) → eqb s.opening o.number ≡ a → ltb s.number (states_in o.table) ≡ b → ltb (first_bad Σ es) (length es) ≡ c → Ends r.state r.verdict
        go false b c p x y = let e = sym (answer false b c p x y) ∙ q in let z : ◌≡◌ {A = ℕ} 0 1 = cc in absurd (omega arith)
        go true false c p x y = let e = sym (answer true false c p x y) ∙ q in let z : ◌≡◌ {A = ℕ} 0 1 = cc in absurd (omega arith)
        go true true true p x y = let e = sym (answer true true true p x y) ∙ q in let z : ◌≡◌ {A = ℕ} 0 1 = cc in absurd (omega arith)
        go true true false p x y =
            let e = sym (answer true true false p x y) ∙ q in
            let z : arrival ≡ r = cc in
            record {
              own = eqb-true s.opening o.number p;
              word = word_of Σ es (all-events Σ es (ltb-false (first_bad Σ es) (length es) y));
              state = sym (ap (λ (x : Arrival State). x.state) z);
              shown = sym (ap (λ (x : Arrival State). x.verdict) z);
            }

    -- ---- refused

    pub foreign-if : ¬ (s.opening ≡ o.number) → run_from o s es ≡ Err (WrongOpening 0)
    foreign-if h = rw (form, ne_eqb s.opening o.number h)

    module _ (own : s.opening ≡ o.number) where
      pub foreign-not : ¬ (run_from o s es ≡ Err (WrongOpening 0))
      foreign-not q = by_tests go
        where
          go : (a b c : Bool) → eqb s.opening o.number ≡ a → ltb s.number (states_in o.table) ≡ b → ltb (first_bad Σ es) (length es) ≡ c → ⊥
          go a false c p x y = let e = sym (answer true false c (eq-eqb s.opening o.number own) x y) ∙ q in let z : ◌≡◌ {A = ℕ} 13 24 = ap (λ (r : Result (Arrival State) Refusal). number_of r) e in omega arith
          go a true true p x y = let e = sym (answer true true true (eq-eqb s.opening o.number own) x y) ∙ q in let z : ◌≡◌ {A = ℕ} 12 24 = ap (λ (r : Result (Arrival State) Refusal). number_of r) e in omega arith
          go a true false p x y = let e = sym (answer true true false (eq-eqb s.opening o.number own) x y) ∙ q in let z : ◌≡◌ {A = ℕ} 0 24 = ap (λ (r : Result (Arrival State) Refusal). number_of r) e in omega arith

      module _ (in_table : s.number < states_in o.table) where
        pub own-refused : (x : Refusal) → run_from o s es ≡ Err x → (code_of x).0 ≡ 12
        own-refused x q = by_tests go
          where
            go : (a b c : Bool) → eqb s.opening o.number ≡ a → ltb s.number (states_in o.table) ≡ b → ltb (first_bad Σ es) (length es) ≡ c → (code_of x).0 ≡ 12
            go a b true p k y = sym (ap (λ (r : Result (Arrival State) Refusal). number_of r) (sym (answer true true true (eq-eqb s.opening o.number own) (lt-ltb s.number (states_in o.table) in_table) y) ∙ q))
            go a b false p k y =
                let e = sym (answer true true false (eq-eqb s.opening o.number own) (lt-ltb s.number (states_in o.table) in_table) y) ∙ q in
                let z : ◌≡◌ {A = ℕ} 0 1 = cc in absurd (omega arith)

        pub own-taken : Word Σ es → (x : Refusal) → ¬ (run_from o s es ≡ Err x)
        own-taken a x q =
            let e = sym (from-own ∙ ap (carried o.number) (word-run o.table form s.number es in_table a)) ∙ q in
            let z : ◌≡◌ {A = ℕ} 0 1 = cc in omega arith
          where
            from-own : run_from o s es ≡ carried o.number (run_of o.table s.number es)
            from-own = ap (λ (k : ℕ). run_from o (state_of k s.number) es) own ∙ own-run o form s.number es
