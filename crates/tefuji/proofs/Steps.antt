-- A run, a judgement of recordings, a fresh desk, a post and a turn with an opening as one number: those that opening a table answered, and those that none can.
use mathlib.Core.Path.{◌≡◌, refl, sym, ap, subst, ◌∙◌}
use mathlib.Core.List.{List}
use mathlib.Core.Bool.{Bool, true, false, cond}
use Prim.Native.Nat.{ℕ, ◌+◌, ◌*◌, ◌/◌, ◌%◌, ◌^◌, ◌<◌}
use native.Mathlib.Omega.{arith}
use borrow.Author.Tests.{lt-leb, ltb-true}
use lib.Dec.{ltb}
use Rattle.sequences.proofs.Tests.{fails}
use Rattle.meaning.specs.TableFiles.{signals_in, states_in, is_table, counts_tests, checked_of}
use Rattle.meaning.specs.Runs.{counts_fit}
use Rattle.meaning.specs.Openings.{opening, state_of, start_of, run_from_in, run_from}
use Rattle.meaning.specs.Desks.{refused, fresh_in, fresh_of}
use Rattle.meaning.specs.Recordings.{judged_in, judged_of}
use Rattle.meaning.specs.declared.Refusal.{Refusal}
use Rattle.meaning.specs.declared.Refusal.TheVariants.{WrongTable}
use Rattle.meaning.specs.declared.State.{State}
use Rattle.meaning.specs.declared.Watch.{Watch}
use Rattle.table_layout.proofs.Form.{table-header, states-few}
use Rattle.table_run.proofs.Answers.{found}
use Rattle.openings.proofs.Answers.{run-from-table, run-from-none, run-from-refused}
use Rattle.desk_tasks.specs.Surveys.{served_in, served_of}
use Rattle.desk_tasks.specs.declared.Request.{Request}
use Rattle.desk_tasks.proofs.Tables.{served-agrees, fresh-agrees}
use Rattle.recordings.proofs.Answers.{judged-table, judged-none, judged-refused}
use Rattle.codes.specs.declared.Opening.{Opening as Found}
use Rattle.codes.specs.Codes.{refusal_code, state_code, state_in, opened_code, signals_of, number_of, states_of, start_code, opening_in, run_at, judge_at, fresh_at}
use Rattle.std.proofs.Common.{Result, Ok, Err}
use Rattle.meaning.specs.declared.Counts.{Counts}
use Rattle.meaning.specs.declared.Arrival.{Arrival}

-- ---- the parts of an opening's number

module _ (P n S : ℕ) (n-fits : n < 65536) (S-fits : S < 65536) where
  signals-back : signals_of (P * 2 ^ 32 + n * 65536 + S) ≡ P
  signals-back = omega (arith, n-fits, S-fits)

  number-back : number_of (P * 2 ^ 32 + n * 65536 + S) ≡ n
  number-back = omega (arith, n-fits, S-fits)

  states-back : states_of (P * 2 ^ 32 + n * 65536 + S) ≡ S
  states-back = omega (arith, n-fits, S-fits)

-- a state comes back from its number
pub state-back : (s : State) → s.number < 65536 → state_in (state_code s) ≡ s
state-back s fits =
    let a : (s.opening * 65536 + s.number) / 65536 ≡ s.opening = omega (arith, fits) in
    let b : (s.opening * 65536 + s.number) % 65536 ≡ s.number = omega (arith, fits) in
    ap (λ (k : ℕ). state_of k (state_code s % 65536)) a ∙ ap (state_of s.opening) b

-- ---- anything with an opening

-- more than four signals fit no table
many-none : (t : List ℕ) (c : ℕ) → 4 < signals_of c → counts_fit t (signals_of c) (states_of c) ≡ false
many-none t c h = fails (counts_tests t (signals_of c) (states_of c)) 1 (lt-leb (signals_of c) 4 h)

-- a refusal as an opening is such a number
refused-large : 4 < signals_of (refusal_code WrongTable)
refused-large = ltb-true 4 (signals_of (refusal_code WrongTable)) refl

-- checking refuses by 14 alone
large : (t : List ℕ) (x : Refusal) → checked_of t ≡ Err x → 4 < signals_of (refusal_code x)
large t x k = go (is_table t) k
  where
    go : (b : Bool) → cond {A = Result Counts Refusal} b (Ok (record { signals = signals_in t; states = states_in t })) (Err WrongTable) ≡ Err x → 4 < signals_of (refusal_code x)
    go true q = let z : ◌≡◌ {A = ℕ} 0 1 = cc in absurd (omega arith)
    go false q =
        let e : WrongTable ≡ x = cc in
        subst (λ (y : Refusal). 4 < signals_of (refusal_code y)) e refused-large

-- what is done with a number over bytes and counts: w where there is no table
module _ {A : Type 0} (t : List ℕ) (by : ℕ → ℕ → ℕ → A) (w : A) (none : (n P S : ℕ) → counts_fit t P S ≡ false → by n P S ≡ w) where
  -- the opening that is taken out of a number does as the number says
  by-opening : (c : ℕ) → by (opening_in c).number (opening_in c).signals (opening_in c).states ≡ by (number_of c) (signals_of c) (states_of c)
  by-opening c = go (ltb 4 (signals_of c)) refl
    where
      go : (b : Bool) → ltb 4 (signals_of c) ≡ b → by (opening_in c).number (opening_in c).signals (opening_in c).states ≡ by (number_of c) (signals_of c) (states_of c)
      go true h = rw h (none (number_of c) 0 0 refl ∙ sym (none (number_of c) (signals_of c) (states_of c) (many-none t c (ltb-true 4 (signals_of c) h))))
      go false h = rw h

  -- and the number that opening the bytes with n answers, whatever the bytes, as the opened table does
  module _ (n : ℕ) (n-fits : n < 65536) (of : A) (wrong : (x : Refusal) → checked_of t ≡ Err x → of ≡ w) (table : (c : Counts) → checked_of t ≡ Ok c → by n c.signals c.states ≡ of) where
    by-checked : (k : Result Counts Refusal) → checked_of t ≡ k → by (number_of (opened_code n k)) (signals_of (opened_code n k)) (states_of (opened_code n k)) ≡ of
    by-checked (Ok c) k =
        let P = c.signals in
        let S = c.states in
        let few : S < 65536 = omega (arith, (found t c k).states, states-few t (table-header t (found t c k).table)) in
        ap (λ (x : ℕ). by x (signals_of (P * 2 ^ 32 + n * 65536 + S)) (states_of (P * 2 ^ 32 + n * 65536 + S))) (number-back P n S n-fits few)
        ∙ ap (λ (x : ℕ). by n x (states_of (P * 2 ^ 32 + n * 65536 + S))) (signals-back P n S n-fits few)
        ∙ ap (by n P) (states-back P n S n-fits few)
        ∙ table c k
    by-checked (Err x) k =
        none (number_of (refusal_code x)) (signals_of (refusal_code x)) (states_of (refusal_code x)) (many-none t (refusal_code x) (large t x k)) ∙ sym (wrong x k)

-- ---- the start

-- the start of the opening that opening a table with n answered is that opening's start
pub start-checked : (t : List ℕ) (n : ℕ) → n < 65536 → is_table t ≡ true → state_in (start_code (opened_code n (checked_of t))) ≡ start_of (opening t n)
start-checked t n n-fits h =
    let k : checked_of t ≡ Ok (record { signals = signals_in t; states = states_in t }) = rw h in
    let few : states_in t < 65536 = omega (arith, states-few t (table-header t h)) in
    state-back (state_of (number_of (opened_code n (checked_of t))) 0) (omega arith)
    ∙ ap (λ (c : Result Counts Refusal). state_of (number_of (opened_code n c)) 0) k
    ∙ ap (λ (x : ℕ). state_of x 0) (number-back (signals_in t) n (states_in t) n-fits few)

-- ---- runs

module _ (t : List ℕ) (s : State) (es : List ℕ) where
  pub run-opening : (c : ℕ) → run_from_in (opening_in c).number t (opening_in c).signals (opening_in c).states s es ≡ run_from_in (number_of c) t (signals_of c) (states_of c) s es
  run-opening = by-opening t (λ n P S. run_from_in n t P S s es) (Err WrongTable) (λ n. run-from-none n t s es)

-- a run over the opening in the number c and the state in q, as o and s
pub run_is : (t : List ℕ) (c q : ℕ) (es : List ℕ) {o : Found} {s : State} {a : Result (Arrival State) Refusal} → o ≡ opening_in c → s ≡ state_in q
    → a ≡ run_from_in o.number t o.signals o.states s es → a ≡ run_at t c q es
run_is t c q es {s = s} oe se e =
    e ∙ ap (λ (k : Found). run_from_in k.number t k.signals k.states s es) oe
    ∙ ap (λ (x : State). run_from_in (opening_in c).number t (opening_in c).signals (opening_in c).states x es) se
    ∙ run-opening t (state_in q) es c

-- with the number that opening the bytes with n answers, whatever the bytes, a run is that of the opened table, and a step one over its event
pub run-checked : (t : List ℕ) (n : ℕ) → n < 65536 → (s : ℕ) (es : List ℕ) → run_at t (opened_code n (checked_of t)) s es ≡ run_from (opening t n) (state_in s) es
run-checked t n n-fits s es =
    by-checked t (λ n P S. run_from_in n t P S (state_in s) es) (Err WrongTable) (λ n. run-from-none n t (state_in s) es)
    n n-fits (run_from (opening t n) (state_in s) es) (run-from-refused n t (state_in s) es) (run-from-table n t (state_in s) es) (checked_of t) refl

-- ---- recordings

module _ (t a b : List ℕ) where
  pub judge-opening : (c : ℕ) → judged_in t (opening_in c).signals (opening_in c).states a b ≡ judge_at t c a b
  judge-opening = by-opening t (λ n P S. judged_in t P S a b) (Err WrongTable) (λ n. judged-none t a b)

  -- recordings are judged over the table, whatever its number
  pub judge-checked : (n : ℕ) → n < 65536 → judge_at t (opened_code n (checked_of t)) a b ≡ judged_of t a b
  judge-checked n n-fits =
      by-checked t (λ n P S. judged_in t P S a b) (Err WrongTable) (λ n. judged-none t a b)
      n n-fits (judged_of t a b) (judged-refused t a b) (judged-table t a b) (checked_of t) refl

-- ---- a desk

module _ (t : List ℕ) (d : List Watch) where
  pub served-opening : (r : Request) (c : ℕ) → served_in t (opening_in c).signals (opening_in c).states r d ≡ served_in t (signals_of c) (states_of c) r d
  served-opening r = by-opening t (λ n P S. served_in t P S r d) (refused d WrongTable) (λ n. (served-agrees t d r).none)

  pub fresh-opening : (c : ℕ) → fresh_in (opening_in c).number t (opening_in c).signals (opening_in c).states d ≡ fresh_at t c d
  fresh-opening = by-opening t (λ n P S. fresh_in n t P S d) (refused d WrongTable) (λ n. (fresh-agrees t d n).none)

  module _ (n : ℕ) (n-fits : n < 65536) where
    abbrev opened : ℕ
    opened = opened_code n (checked_of t)

    -- a post and a turn are those over the opened table; what is asked has the opening's number
    pub served-checked : (ask : ℕ → Request) → served_in t (signals_of opened) (states_of opened) (ask (number_of opened)) d ≡ served_of t (ask n) d
    served-checked ask =
        by-checked t (λ n P S. served_in t P S (ask n) d) (refused d WrongTable) (λ n. (served-agrees t d (ask n)).none)
        n n-fits (served_of t (ask n) d) (served-agrees t d (ask n)).wrong (served-agrees t d (ask n)).table (checked_of t) refl

    -- and so is a fresh desk
    pub fresh-checked : fresh_at t opened d ≡ fresh_of (opening t n) d
    fresh-checked =
        by-checked t (λ n P S. fresh_in n t P S d) (refused d WrongTable) (λ n. (fresh-agrees t d n).none)
        n n-fits (fresh_of (opening t n) d) (fresh-agrees t d n).wrong (fresh-agrees t d n).table (checked_of t) refl
