-- A written table reads back: its length, its counts, each verdict byte and each successor, and it has the form of a table file. Only what
-- stands at the states and events that a table has is written.
use mathlib.Core.Path.{◌≡◌, refl, sym, ap, ap₂, ◌∙◌, subst₂}
use mathlib.Core.List.{List, [], ◌∷◌, ◌++◌}
use mathlib.Core.Bool.{Bool, true, false, cond, not, ◌&&◌}
use Prim.Native.Nat.{ℕ, zero, suc, ◌+◌, ◌*◌, ◌^◌, ◌≤◌, ◌<◌}
use native.Mathlib.Nat.{mod-add-div}
use native.Mathlib.Omega.{arith}
use lib.ListN.{length, get_or, length-append}
use lib.Seq.{get_or-append-add}
use lib.Dec.{ltb, eqb}
use borrow.Author.Tests.{lt-ltb, le-leb, eq-eqb, ne_eqb}
use Rattle.sequences.proofs.Loops.{all-not}
use Rattle.sequences.proofs.Pointwise.{all-is}
use Rattle.sequences.specs.Tabulate.{joined, every, all_below}
use Rattle.sequences.proofs.Joined.{joined_length, joined_at}
use Rattle.meaning.specs.Bytes.{u16_at}
use Rattle.meaning.specs.Traces.{Alphabet}
use Rattle.meaning.specs.TableFiles.{signals_in, states_in, row_length, row_at, verdict_byte, successor, table_length, no_successor, alphabet_in, successor_fits, event_left, row_tests, header_tests, is_table}
use Rattle.wire.specs.Wire.{u16_bytes}
use Rattle.table_bytes.specs.Written.{header_bytes, written_successor, successor_bytes, row_bytes, rows_bytes, table_bytes}

-- what a table file can hold, where some event can happen
pub record Fitting (Σ : Alphabet) (P S : ℕ) (verdicts : List ℕ) (rows : List (List ℕ)) : Type 0 where
  pub signals_low : 1 ≤ P
  pub signals_high : P ≤ 4
  pub states-low : 1 ≤ S
  pub states-high : S ≤ 256
  pub verdict : (s : ℕ) → s < S → get_or verdicts s 0 ≤ 3
  pub next : (s e : ℕ) → s < S → e < 2 ^ P → Σ.possible e ≡ true → get_or (get_or rows s []) e 0 < S
  pub event : ℕ
  pub event-low : event < 2 ^ P
  pub event-possible : Σ.possible event ≡ true

-- ---- tests
abbrev Each : List Bool → Type 0
Each [] = Unit {0}
Each (b ∷ bs) = (b ≡ true) × Each bs

every-is : (bs : List Bool) → Each bs → every bs ≡ true
every-is [] h = refl
every-is (b ∷ bs) h = rw h.0 (every-is bs h.1)

-- ---- a successor
written-possible : (Σ : Alphabet) (row : List ℕ) (e : ℕ) → Σ.possible e ≡ true → written_successor Σ row e ≡ get_or row e 0
written-possible Σ row e q = rw q

written-impossible : (Σ : Alphabet) (row : List ℕ) (e : ℕ) → Σ.possible e ≡ false → written_successor Σ row e ≡ no_successor
written-impossible Σ row e q = rw q

-- ---- a row
successors-length : (Σ : Alphabet) (n : ℕ) (row : List ℕ) → length (successor_bytes Σ n row) ≡ n * 2
successors-length Σ n row = joined_length 2 _ (λ e. refl) n

-- a byte of the successor for event e
row-at : (Σ : Alphabet) (P v : ℕ) (row : List ℕ) (e j : ℕ) → e < 2 ^ P → j < 2 → get_or (row_bytes Σ P v row) (5 + (e * 2 + j)) 0 ≡ get_or (u16_bytes (written_successor Σ row e)) j 0
row-at Σ P v row e j l m =
    get_or-append-add (u16_bytes (3 + 2 * 2 ^ P) ++ (1 ∷ 2 ∷ v ∷ [])) (successor_bytes Σ (2 ^ P) row) (e * 2 + j) 0
    ∙ joined_at 2 _ (λ i. refl) (2 ^ P) e j 0 l m

module _ (Σ : Alphabet) (P S : ℕ) (verdicts : List ℕ) (rows : List (List ℕ)) where
  rows-length : length (rows_bytes Σ P S verdicts rows) ≡ S * row_length P
  rows-length = joined_length (row_length P) _ (λ s. omega (arith, successors-length Σ (2 ^ P) (get_or rows s []))) S

  pub length_back : length (table_bytes Σ P S verdicts rows) ≡ table_length P S
  unfolding table_bytes
  length_back =
      length-append (header_bytes P S) (rows_bytes Σ P S verdicts rows)
      ∙ omega (arith, rows-length)

  pub signals-back : signals_in (table_bytes Σ P S verdicts rows) ≡ P
  unfolding table_bytes
  signals-back = refl

  pub states-back : states_in (table_bytes Σ P S verdicts rows) ≡ S
  unfolding table_bytes
  states-back = mod-add-div S 256

  -- a byte of state s
  at_row : (s i j : ℕ) → s < S → j < row_length P → i ≡ row_at P s + j → get_or (table_bytes Σ P S verdicts rows) i 0 ≡ get_or (row_bytes Σ P (get_or verdicts s 0) (get_or rows s [])) j 0
  unfolding table_bytes
  at_row s i j l m e =
      let q : i ≡ 7 + (s * row_length P + j) = omega arith in
      ap (λ (k : ℕ). get_or (table_bytes Σ P S verdicts rows) k 0) q
      ∙ get_or-append-add (header_bytes P S) (rows_bytes Σ P S verdicts rows) (s * row_length P + j) 0
      ∙ joined_at (row_length P) _ (λ s. omega (arith, successors-length Σ (2 ^ P) (get_or rows s []))) S s j 0 l m

  pub verdict-back : (s : ℕ) → s < S → verdict_byte (table_bytes Σ P S verdicts rows) P s ≡ get_or verdicts s 0
  verdict-back s l = at_row s (row_at P s + 4) 4 l (omega arith) refl

  -- a number of two bytes of state s
  at-row-two : (s i j n : ℕ) → s < S → suc j < row_length P → i ≡ row_at P s + j → get_or (row_bytes Σ P (get_or verdicts s 0) (get_or rows s [])) j 0 ≡ get_or (u16_bytes n) 0 0
      → get_or (row_bytes Σ P (get_or verdicts s 0) (get_or rows s [])) (suc j) 0 ≡ get_or (u16_bytes n) 1 0 → u16_at (table_bytes Σ P S verdicts rows) i ≡ n
  at-row-two s i j n l m e low high =
      ap₂ (λ (a b : ℕ). a + 256 * b) (at_row s i j l (omega arith) e ∙ low) (at_row s (i + 1) (suc j) l m (omega arith) ∙ high)
      ∙ mod-add-div n 256

  pub successor-back : (s e : ℕ) → s < S → e < 2 ^ P → successor (table_bytes Σ P S verdicts rows) P s e ≡ written_successor Σ (get_or rows s []) e
  successor-back s e l m =
      let row : List ℕ = row_bytes Σ P (get_or verdicts s 0) (get_or rows s []) in
      let q : suc (5 + (e * 2 + 0)) ≡ 5 + (e * 2 + 1) = omega arith in
      at-row-two s (row_at P s + 5 + 2 * e) (5 + (e * 2 + 0)) (written_successor Σ (get_or rows s []) e) l (omega arith) (omega arith)
      (row-at Σ P (get_or verdicts s 0) (get_or rows s []) e 0 m (omega arith))
      (ap (λ (k : ℕ). get_or row k 0) q ∙ row-at Σ P (get_or verdicts s 0) (get_or rows s []) e 1 m (omega arith))

  -- a successor that is possible, and one that is not
  pub back-possible : (s e : ℕ) → s < S → e < 2 ^ P → Σ.possible e ≡ true → successor (table_bytes Σ P S verdicts rows) P s e ≡ get_or (get_or rows s []) e 0
  back-possible s e l m q = successor-back s e l m ∙ written-possible Σ (get_or rows s []) e q

  back-impossible : (s e : ℕ) → s < S → e < 2 ^ P → Σ.possible e ≡ false → successor (table_bytes Σ P S verdicts rows) P s e ≡ no_successor
  back-impossible s e l m q = successor-back s e l m ∙ written-impossible Σ (get_or rows s []) e q

  -- the table's own events are those of Σ
  pub possible-back : Fitting Σ P S verdicts rows → (e : ℕ) → e < 2 ^ P → (alphabet_in (table_bytes Σ P S verdicts rows) P).possible e ≡ Σ.possible e
  possible-back f e m = go (Σ.possible e) refl
    where
      to : ℕ
      to = successor (table_bytes Σ P S verdicts rows) P 0 e

      go : (b : Bool) → Σ.possible e ≡ b → not (eqb to no_successor) ≡ b
      go true q = ap not (ne_eqb to no_successor (λ z. omega (arith, back-possible 0 e f.states-low m q, f.next 0 e f.states-low m q, f.states-high)))
      go false q = ap not (eq-eqb to no_successor (back-impossible 0 e f.states-low m q))

  event-left : Fitting Σ P S verdicts rows → event_left (table_bytes Σ P S verdicts rows) P ≡ true
  event-left f =
      let t : List ℕ = table_bytes Σ P S verdicts rows in
      ap not (all-not (2 ^ P) (λ e. not ((alphabet_in t P).possible e)) f.event f.event-low (ap not (possible-back f f.event f.event-low ∙ f.event-possible)))

  fits-back : Fitting Σ P S verdicts rows → (s e : ℕ) → s < S → e < 2 ^ P → successor_fits (table_bytes Σ P S verdicts rows) P S s e ≡ true
  fits-back f s e l m = ap (λ (b : Bool). cond b (ltb to S) (eqb to no_successor)) (possible-back f e m) ∙ go (Σ.possible e) refl
    where
      to : ℕ
      to = successor (table_bytes Σ P S verdicts rows) P s e

      go : (b : Bool) → Σ.possible e ≡ b → cond b (ltb to S) (eqb to no_successor) ≡ true
      go true q = lt-ltb to S (omega (arith, back-possible s e l m q, f.next s e l m q))
      go false q = eq-eqb to no_successor (back-impossible s e l m q)

  -- the length and the kind of the first record
  first-record : (eqb (u16_at (table_bytes Σ P S verdicts rows) 0) 5 ≡ true) × (eqb (u16_at (table_bytes Σ P S verdicts rows) 2) 512 ≡ true)
  unfolding table_bytes
  first-record = (refl, refl)

  header-tests : Fitting Σ P S verdicts rows → every (header_tests (table_bytes Σ P S verdicts rows)) ≡ true
  header-tests f =
      let t : List ℕ = table_bytes Σ P S verdicts rows in
      every-is (header_tests t) (
        le-leb 7 (length t) (omega (arith, length_back)),
        (
          first-record.0,
          (
            first-record.1,
            (
              le-leb 1 (signals_in t) (rw signals-back f.signals_low),
              (
                le-leb (signals_in t) 4 (rw signals-back f.signals_high),
                (
                  le-leb 1 (states_in t) (rw states-back f.states-low),
                  (
                    le-leb (states_in t) 256 (rw states-back f.states-high),
                    (
                      eq-eqb (length t) (table_length (signals_in t) (states_in t)) (rw (signals-back, states-back) length_back),
                      tt,
                    ),
                  ),
                ),
              ),
            ),
          ),
        ),
      )

  row-tests : Fitting Σ P S verdicts rows → (s : ℕ) → s < S → every (row_tests (table_bytes Σ P S verdicts rows) P S s) ≡ true
  row-tests f s l =
      let t : List ℕ = table_bytes Σ P S verdicts rows in
      every-is (row_tests t P S s) (
        eq-eqb (u16_at t (row_at P s)) (3 + 2 * 2 ^ P) (at-row-two s (row_at P s) 0 (3 + 2 * 2 ^ P) l (omega arith) (omega arith) refl refl),
        (
          eq-eqb (u16_at t (row_at P s + 2)) 513 (at-row-two s (row_at P s + 2) 2 513 l (omega arith) refl refl refl),
          (
            le-leb (verdict_byte t P s) 3 (omega (arith, verdict-back s l, f.verdict s l)),
            (event-left f, (all-is (2 ^ P) (successor_fits t P S s) (λ e m. fits-back f s e l m), tt)),
          ),
        ),
      )

  pub is-table : Fitting Σ P S verdicts rows → is_table (table_bytes Σ P S verdicts rows) ≡ true
  unfolding is_table
  is-table f =
      let t : List ℕ = table_bytes Σ P S verdicts rows in
      ap₂ ◌&&◌ (header-tests f)
      (subst₂ (λ (p n : ℕ). all_below n (λ s. every (row_tests t p n s)) ≡ true) (sym signals-back) (sym states-back) (all-is S (λ s. every (row_tests t P S s)) (row-tests f)))

-- ---- tables that agree at their states and events have the same bytes
joined_same : (n : ℕ) (f g : ℕ → List ℕ) → ((i : ℕ) → i < n → f i ≡ g i) → joined n f ≡ joined n g
joined_same zero f g h = refl
joined_same (suc n) f g h = ap₂ ◌++◌ (joined_same n f g (λ i l. h i (omega arith))) (h n (omega arith))

pub same_bytes : (Σ : Alphabet) (P S : ℕ) (verdicts verdicts' : List ℕ) (rows rows' : List (List ℕ)) → ((s : ℕ) → s < S → get_or verdicts s 0 ≡ get_or verdicts' s 0)
    → ((s e : ℕ) → s < S → e < 2 ^ P → Σ.possible e ≡ true → get_or (get_or rows s []) e 0 ≡ get_or (get_or rows' s []) e 0)
    → table_bytes Σ P S verdicts rows ≡ table_bytes Σ P S verdicts' rows'
unfolding table_bytes
same_bytes Σ P S verdicts verdicts' rows rows' h k =
    ap (λ (b : List ℕ). header_bytes P S ++ b)
    (joined_same S (λ s. row_bytes Σ P (get_or verdicts s 0) (get_or rows s [])) (λ s. row_bytes Σ P (get_or verdicts' s 0) (get_or rows' s []))
    (λ s l. ap₂ (λ (v : ℕ) (b : List ℕ). u16_bytes (3 + 2 * 2 ^ P) ++ (1 ∷ 2 ∷ v ∷ b)) (h s l)
    (joined_same (2 ^ P) (λ e. u16_bytes (written_successor Σ (get_or rows s []) e)) (λ e. u16_bytes (written_successor Σ (get_or rows' s []) e)) (λ e m. ap u16_bytes (written s e l m (Σ.possible e) refl)))))
  where
    written : (s e : ℕ) → s < S → e < 2 ^ P → (b : Bool) → Σ.possible e ≡ b → written_successor Σ (get_or rows s []) e ≡ written_successor Σ (get_or rows' s []) e
    written s e l m true q = written-possible Σ (get_or rows s []) e q ∙ k s e l m q ∙ sym (written-possible Σ (get_or rows' s []) e q)
    written s e l m false q = written-impossible Σ (get_or rows s []) e q ∙ sym (written-impossible Σ (get_or rows' s []) e q)

-- and so have those for the same events
pub same-events : (Σ Σ' : Alphabet) (P S : ℕ) (verdicts : List ℕ) (rows : List (List ℕ)) → ((e : ℕ) → e < 2 ^ P → Σ.possible e ≡ Σ'.possible e)
    → table_bytes Σ P S verdicts rows ≡ table_bytes Σ' P S verdicts rows
unfolding table_bytes
same-events Σ Σ' P S verdicts rows h =
    ap (λ (b : List ℕ). header_bytes P S ++ b)
    (joined_same S (λ s. row_bytes Σ P (get_or verdicts s 0) (get_or rows s [])) (λ s. row_bytes Σ' P (get_or verdicts s 0) (get_or rows s []))
    (λ s l. ap (λ (b : List ℕ). u16_bytes (3 + 2 * 2 ^ P) ++ (1 ∷ 2 ∷ get_or verdicts s 0 ∷ b))
    (joined_same (2 ^ P) (λ e. u16_bytes (written_successor Σ (get_or rows s []) e)) (λ e. u16_bytes (written_successor Σ' (get_or rows s []) e))
    (λ e m. ap (λ (b : Bool). u16_bytes (cond b (get_or (get_or rows s []) e 0) no_successor)) (h e m)))))
