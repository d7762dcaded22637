-- What runs and rows answer.
--     stays                     for any bytes and counts, an answer never leaves the table
--     run-table, row-table      with the counts of checked bytes nothing is tested in vain: the answers are those of the table
--     run-refused, row-refused  counts of 0, as a refused opening has them, are refused by 14
use mathlib.Core.Path.{◌≡◌, refl, sym}
use mathlib.Core.List.{List, [], ◌∷◌}
use mathlib.Core.Bool.{Bool, true, false, cond}
use Prim.Native.Nat.{ℕ, suc, ◌≤◌, ◌<◌}
use native.Mathlib.Omega.{arith}
use borrow.Author.Tests.{lt-ltb, leb-true, ltb-true, ltb-false}
use lib.Dec.{leb, ltb}
use lib.ListN.{length, get_or}
use Rattle.sequences.specs.Tabulate.{every}
use Rattle.sequences.proofs.Tests.{both}
use Rattle.meaning.specs.Traces.{Alphabet, is_event}
use Rattle.meaning.specs.Monitors.{Monitor, follow}
use Rattle.meaning.specs.TableFiles.{is_table, alphabet_in, signals_in, states_in, checked_of, verdict_of, verdict_byte, successor, monitor_in, content_tests}
use Rattle.meaning.specs.Runs.{decided_from, end_of, first_bad, ran_of, run_of, counts_fit, in_table, on_table, tested, ran_in, row_of, row_read, row_in}
use Rattle.meaning.specs.declared.Refusal.{Refusal}
use Rattle.meaning.specs.declared.Refusal.TheVariants.{WrongEvent, WrongState, WrongTable}
use Rattle.table_layout.proofs.Form.{test-event, table-counts, table-verdict, table-inside, table-content}
use Rattle.event_lists.proofs.Laws.{all-events}
use Rattle.meaning.specs.declared.Arrival.{Arrival}
use Rattle.meaning.specs.declared.Counts.{Counts}
use Rattle.meaning.specs.declared.StateRow.{StateRow}
use Rattle.std.proofs.Common.{Result, Ok, Err, ap}

-- ---- any bytes and counts
module _ (t : List ℕ) (P S : ℕ) where
  abbrev m : Monitor
  m = monitor_in t P S

  -- a way on the table ends in it
  pub on-end : (s : ℕ) (es : List ℕ) → on_table t P S s es ≡ true → in_table t P S (follow m s es) ≡ true
  unfolding on_table
  on-end s [] h = h
  on-end s (e ∷ es) h = on-end (successor t P s e) es (both (in_table t P S s) (on_table t P S (successor t P s e) es) h).1

  -- the end state is one of the table's, its byte is one of the four, and the verdict is that byte's
  pub stays : (s : ℕ) (es : List ℕ) (a : Arrival ℕ) → ran_in t P S s es ≡ Ok a
      → (a.state < S) × (verdict_byte t P a.state ≤ 3) × (a.verdict ≡ verdict_of (verdict_byte t P a.state))
  stays s es r h = go (counts_fit t P S) (ltb s S) (ltb bad (length es)) (on_table t P S s es) refl h
    where
      bad : ℕ
      bad = first_bad (alphabet_in t P) es

      go : (a b c o : Bool) → on_table t P S s es ≡ o
          → cond a (tested o (cond b (cond c (Err (WrongEvent bad)) (end_of m s es)) (Err WrongState))) (Err WrongTable) ≡ Ok r
          → (r.state < S) × (verdict_byte t P r.state ≤ 3) × (r.verdict ≡ verdict_of (verdict_byte t P r.state))
      go true true false true p e =
          let z : record { state = follow m s es; verdict = m.verdict (follow m s es); decided = decided_from m 0 s es } ≡ r = cc in
          let q : follow m s es ≡ r.state = ap (λ (x : Arrival ℕ). x.state) z in
          let i : in_table t P S r.state ≡ true = rw q at (on-end s es p) in
          let x = both (ltb r.state S) (leb (verdict_byte t P r.state) 3) i in
          let w : r.verdict ≡ verdict_of (verdict_byte t P (follow m s es)) = sym (ap (λ (x : Arrival ℕ). x.verdict) z) in
          (ltb-true r.state S x.0, leb-true (verdict_byte t P r.state) 3 x.1, rw q at w)
      go true true false false p e = let z : ◌≡◌ {A = ℕ} 0 1 = cc in absurd (omega arith)
      go true true true o p e = let z : ◌≡◌ {A = ℕ} 0 1 = cc in absurd (omega arith)
      go true false c o p e = let z : ◌≡◌ {A = ℕ} 0 1 = cc in absurd (omega arith)
      go false b c o p e = let z : ◌≡◌ {A = ℕ} 0 1 = cc in absurd (omega arith)

-- ---- checked bytes
module _ (t : List ℕ) where
  module _ (h : is_table t ≡ true) where
    abbrev P : ℕ
    P = signals_in t

    abbrev S : ℕ
    S = states_in t

    abbrev Σ : Alphabet
    Σ = alphabet_in t P

    pub on-way : (s : ℕ) (es : List ℕ) → s < S → ((i : ℕ) → i < length es → is_event Σ (get_or es i 0) ≡ true) → on_table t P S s es ≡ true
    unfolding on_table
    on-way s [] l all = rw (lt-ltb s S l, table-verdict t h s l)
    on-way s (e ∷ es) l all =
        rw (lt-ltb s S l, table-verdict t h s l) (on-way (successor t P s e) es (table-inside t h s e l (test-event Σ e (all 0 (omega arith)))) (λ i b. all (suc i) (omega arith)))

    kept : (s : ℕ) (es : List ℕ) → tested (on_table t P S s es) (ran_of (monitor_in t P S) Σ s es) ≡ ran_of (monitor_in t P S) Σ s es
    kept s es = go (ltb s S) (ltb (first_bad Σ es) (length es)) refl refl
      where
        go : (b c : Bool) → ltb s S ≡ b → ltb (first_bad Σ es) (length es) ≡ c
            → tested (on_table t P S s es) (cond b (cond c (Err (WrongEvent (first_bad Σ es))) (end_of (monitor_in t P S) s es)) (Err WrongState))
            ≡ cond b (cond c (Err (WrongEvent (first_bad Σ es))) (end_of (monitor_in t P S) s es)) (Err WrongState)
        go true true p q = refl
        go true false p q = rw (on-way s es (ltb-true s S p) (all-events Σ es (ltb-false (first_bad Σ es) (length es) q)))
        go false c p q = refl

  -- the counts in the first record
  abbrev counts : Counts
  counts = record { signals = signals_in t; states = states_in t }

  -- what checking found
  pub record Found (c : Counts) : Type 0 where
    pub table : is_table t ≡ true
    pub signals : c.signals ≡ signals_in t
    pub states : c.states ≡ states_in t

  pub found : (c : Counts) → checked_of t ≡ Ok c → Found c
  found c e = go (is_table t) refl e
    where
      go : (b : Bool) → is_table t ≡ b → cond b (Ok counts) (Err WrongTable) ≡ Ok c → Found c
      go true p q =
          let z : counts ≡ c = cc in
          record { table = p; signals = sym (ap (λ (x : Counts). x.signals) z); states = sym (ap (λ (x : Counts). x.states) z) }
      go false p q = let z : ◌≡◌ {A = ℕ} 0 1 = cc in absurd (omega arith)

  -- bytes that were refused are no table
  pub no-table : (x : Refusal) → checked_of t ≡ Err x → is_table t ≡ false
  no-table x e = go (is_table t) e
    where
      go : (b : Bool) → cond b (Ok counts) (Err WrongTable) ≡ Err x → b ≡ false
      go true q = let z : ◌≡◌ {A = ℕ} 0 1 = cc in absurd (omega arith)
      go false q = refl

  -- and were refused by 14
  pub refused-by : (x : Refusal) → checked_of t ≡ Err x → x ≡ WrongTable
  refused-by x e = go (is_table t) e
    where
      go : (b : Bool) → cond b (Ok counts) (Err WrongTable) ≡ Err x → x ≡ WrongTable
      go true q = let z : ◌≡◌ {A = ℕ} 0 1 = cc in absurd (omega arith)
      go false q = cc

  module _ (s : ℕ) where
    module _ (es : List ℕ) where
      pub run-refused : (x : Refusal) → checked_of t ≡ Err x → Err WrongTable ≡ run_of t s es
      run-refused x e = rw (no-table x e)

      pub run-table : (c : Counts) → checked_of t ≡ Ok c → ran_in t c.signals c.states s es ≡ run_of t s es
      run-table c e = let f = found c e in rw (f.signals, f.states, f.table, table-counts t f.table) (kept f.table s es)

    abbrev row : Result StateRow Refusal
    row = Ok (row_of t (signals_in t) s)

    -- a row of checked bytes is the table's, and a refused opening, whose counts are 0, has none
    pub row-table : (c : Counts) → checked_of t ≡ Ok c → row_in t c.signals c.states s ≡ row_read t s
    row-table c e = let f = found c e in rw (f.signals, f.states, f.table, table-counts t f.table) (row_kept f.table)
      where
        row_kept : (h : is_table t ≡ true)
            → cond (ltb s (states_in t)) (cond (every (content_tests t (signals_in t) (states_in t) s)) row (Err WrongTable)) (Err WrongState)
            ≡ cond (ltb s (states_in t)) row (Err WrongState)
        row_kept h = go (ltb s (states_in t)) refl
          where
            go : (b : Bool) → ltb s (states_in t) ≡ b
                → cond b (cond (every (content_tests t (signals_in t) (states_in t) s)) row (Err WrongTable)) (Err WrongState) ≡ cond b row (Err WrongState)
            go true e = rw (table-content t h s (ltb-true s (states_in t) e))
            go false e = refl

    pub row-refused : (x : Refusal) → checked_of t ≡ Err x → row_in t 0 0 s ≡ row_read t s
    row-refused x e = rw (no-table x e)
