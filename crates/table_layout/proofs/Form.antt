-- Laws of the form of a table.
use mathlib.Core.Path.{◌≡◌, refl}
use mathlib.Core.List.{List, ◌∷◌}
use mathlib.Core.Bool.{Bool, true, false, cond, ◌&&◌}
use Prim.Native.Nat.{ℕ, ◌+◌, ◌^◌, ◌≤◌, ◌<◌}
use native.Mathlib.Nat.{mul-le-mul_right}
use native.Mathlib.Omega.{arith}
use lib.ListN.{length}
use lib.Dec.{T, leb, ltb, eqb}
use borrow.Author.Tests.{leb-true, ltb-true, lt-ltb, eqb-true}
use Rattle.sequences.specs.Tabulate.{every, all_below}
use Rattle.sequences.proofs.Tests.{holds}
use Rattle.sequences.proofs.Loops.{all-at}
use Rattle.sequences.proofs.Pointwise.{is_true}
use Rattle.meaning.specs.Bytes.{u16_at}
use Rattle.meaning.specs.Traces.{Alphabet, Event, is_event}
use Rattle.meaning.specs.TableFiles.{row_length, row_at, table_length, counts_tests, content_tests, header_tests, row_tests, signals_in, states_in, verdict_byte, successor, alphabet_in, successor_fits, event_left, is_table}
use Rattle.meaning.specs.Runs.{counts_fit}

never : {A : Type 0} → false ≡ true → A
never q = let z : ◌≡◌ {A = ℕ} 0 1 = cc in absurd (omega arith)

-- an event that can happen, by the test of it
module _ (Σ : Alphabet) (e : ℕ) where
  pub event-test : Event Σ e → is_event Σ e ≡ true
  event-test h = rw (lt-ltb e Σ.width h.0) (is_true (Σ.possible e) h.1)

  pub test-event : is_event Σ e ≡ true → Event Σ e
  test-event h = go (ltb e Σ.width) (Σ.possible e) refl h
    where
      go : (a b : Bool) → ltb e Σ.width ≡ a → (a && b) ≡ true → (e < Σ.width) × T b
      go true true q r = (ltb-true e Σ.width q, tt)
      go true false q r = never r
      go false b q r = never r

-- the test of its successor
chosen : (b x y : Bool) → T b → cond b x y ≡ true → x ≡ true
chosen true x y h q = q
chosen false x y h q = absurd h

-- what counts that fit tell
module _ (t : List ℕ) (P S : ℕ) (h : counts_fit t P S ≡ true) where
  pub counts-few : P ≤ 4
  counts-few = leb-true P 4 (holds (counts_tests t P S) h 1)

  pub counts_some : 1 ≤ S
  counts_some = leb-true 1 S (holds (counts_tests t P S) h 2)

  -- the record of each state stands within the bytes
  pub row_inside : (s : ℕ) → s < S → row_at P (s + 1) ≤ length t
  row_inside s l = omega (arith, eqb-true (length t) (table_length P S) (holds (counts_tests t P S) h 4), mul-le-mul_right {m = s + 1} {n = S} (row_length P) (omega arith))

-- the tests after the first three
after-three : (a b c : Bool) (l : List Bool) → every (a ∷ b ∷ c ∷ l) ≡ true → every l ≡ true
after-three true true true l h = h
after-three true true false l h = never h
after-three true false c l h = never h
after-three false b c l h = never h

module _ (t : List ℕ) where
  abbrev pub rows_fit : Bool
  rows_fit = all_below (states_in t) (λ s. every (row_tests t (signals_in t) (states_in t) s))

  -- a first record that fits names at most four signals
  pub signals-few : every (header_tests t) ≡ true → signals_in t ≤ 4
  signals-few h = leb-true (signals_in t) 4 (holds (header_tests t) h 4)

  -- and from 1 to 256 states
  pub states-some : every (header_tests t) ≡ true → 1 ≤ states_in t
  states-some h = leb-true 1 (states_in t) (holds (header_tests t) h 5)

  pub states-few : every (header_tests t) ≡ true → states_in t ≤ 256
  states-few h = leb-true (states_in t) 256 (holds (header_tests t) h 6)

  pub header-counts : every (header_tests t) ≡ true → counts_fit t (signals_in t) (states_in t) ≡ true
  header-counts h = after-three (leb 7 (length t)) (eqb (u16_at t 0) 5) (eqb (u16_at t 2) 512) (counts_tests t (signals_in t) (states_in t)) h

  pub table-header : is_table t ≡ true → every (header_tests t) ≡ true
  unfolding is_table
  table-header h = go (every (header_tests t)) h
    where
      go : (b : Bool) → (b && rows_fit) ≡ true → b ≡ true
      go true e = refl
      go false e = e

  -- what the counts of a table tell
  module _ (h : is_table t ≡ true) where
    pub table-counts : counts_fit t (signals_in t) (states_in t) ≡ true
    table-counts = header-counts (table-header h)

    table-row : (s : ℕ) → s < states_in t → every (row_tests t (signals_in t) (states_in t) s) ≡ true
    unfolding is_table
    table-row s l = all-at (states_in t) (λ k. every (row_tests t (signals_in t) (states_in t) k)) (go (every (header_tests t)) h) s l
      where
        go : (b : Bool) → (b && rows_fit) ≡ true → rows_fit ≡ true
        go true e = e
        go false e = never e

    -- a state's verdict byte and its successors
    pub table-verdict : (s : ℕ) → s < states_in t → leb (verdict_byte t (signals_in t) s) 3 ≡ true
    table-verdict s l = holds (row_tests t (signals_in t) (states_in t) s) (table-row s l) 2

    table-left : (s : ℕ) → s < states_in t → event_left t (signals_in t) ≡ true
    table-left s l = holds (row_tests t (signals_in t) (states_in t) s) (table-row s l) 3

    table-successors : (s : ℕ) → s < states_in t → all_below (2 ^ signals_in t) (successor_fits t (signals_in t) (states_in t) s) ≡ true
    table-successors s l = holds (row_tests t (signals_in t) (states_in t) s) (table-row s l) 4

    pub table-content : (s : ℕ) → s < states_in t → every (content_tests t (signals_in t) (states_in t) s) ≡ true
    table-content s l = rw (table-verdict s l, table-left s l, table-successors s l)

    -- the successor for an event that can happen is a state
    pub table-inside : (s e : ℕ) → s < states_in t → Event (alphabet_in t (signals_in t)) e → successor t (signals_in t) s e < states_in t
    table-inside s e l b =
        let fits = all-at (2 ^ signals_in t) (successor_fits t (signals_in t) (states_in t) s) (table-successors s l) e b.0 in
        ltb-true (successor t (signals_in t) s e) (states_in t) (chosen ((alphabet_in t (signals_in t)).possible e) _ _ b.1 fits)
