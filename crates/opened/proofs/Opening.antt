-- An opened table tells what checking its bytes finds, and runs, steps, shows its rows, judges recordings and serves
-- a desk as its bytes do; a refused opening does nothing else than refuse, as counts of 0 and 0 do. Stepping through a
-- list of events follows the table's monitor.
use mathlib.Core.Path.{◌≡◌, refl, sym, ap, ◌∙◌}
use mathlib.Core.List.{List, [], ◌∷◌}
use mathlib.Core.Bool.{Bool, true, false}
use Prim.Native.Nat.{ℕ, ◌<◌}
use borrow.Author.Tests.{le-leb, lt-ltb, eq-eqb}
use denote.Ref.{Bor}
use Rattle.meaning.specs.Traces.{Alphabet, Event, Word}
use Rattle.meaning.specs.Monitors.{follow}
use Rattle.meaning.specs.TableFiles.{is_table, alphabet_in, signals_in, states_in, successor, checked_of, monitor_of}
use Rattle.meaning.specs.Runs.{row_read, row_in}
use Rattle.meaning.specs.Openings.{opening, state_of, run_from, run_from_in}
use Rattle.meaning.specs.Desks.{Outcome, refused, fresh_in, fresh_of, post_in, post_of, turn_in, turn_of}
use Rattle.meaning.specs.Recordings.{judged_in, judged_of}
use Rattle.meaning.specs.declared.State.{State}
use Rattle.meaning.specs.declared.Watch.{Watch}
use Rattle.table_layout.proofs.Form.{event-test, states-some, table-header, table-inside}
use Rattle.table_run.proofs.Answers.{row-table, row-refused}
use Rattle.openings.specs.Steps.{state_after, stepped_in}
use Rattle.openings.proofs.Answers.{run-from-table, run-from-refused}
use Rattle.desk_tasks.specs.Surveys.{served_in, served_of}
use Rattle.desk_tasks.specs.declared.Request.{Request}
use Rattle.desk_tasks.specs.declared.Request.TheVariants.{Post, Turn}
use Rattle.desk_tasks.proofs.Tables.{Agrees, served-agrees, fresh-agrees}
use Rattle.recordings.proofs.Answers.{judged-table, judged-refused}
use Rattle.opened.specs.OpenedTables.{by_counts, counts_of, opened_of, outcome_in, outcome_by, ran_by, row_by, stepped_all, judged_by, freshened_by, posted_by, turned_by}
use Rattle.opened.specs.declared.Opened.{Opened}
use Rattle.std.specs.Result.{result_ok}
use Rattle.std.proofs.Common.{Option, Some, None, Result, Ok, Err}
use Rattle.meaning.specs.declared.Counts.{Counts}
use Rattle.meaning.specs.declared.Arrival.{Arrival}
use Rattle.meaning.specs.declared.Refusal.{Refusal}
use Rattle.meaning.specs.declared.Refusal.TheVariants.{WrongTable}

module _ (x : Bor (List ℕ)) (n : ℕ) where
  -- "Opening checks the bytes and refuses by 14"
  pub opened-outcome : outcome_by (opened_of x n) ≡ checked_of x.now
  opened-outcome = go (is_table x.now) refl
    where
      go : (b : Bool) → is_table x.now ≡ b → outcome_by (opened_of x n) ≡ checked_of x.now
      go true e = rw (e, le-leb 1 (states_in x.now) (states-some x.now (table-header x.now e)))
      go false e = rw e

  -- "A run takes an opened table, a state and a list of events."
  pub opened-runs : (s : State) (es : List ℕ) → ran_by (opened_of x n) s es ≡ run_from (opening x.now n) s es
  opened-runs s es = go (checked_of x.now) refl
    where
      go : (c : Result Counts Refusal) → checked_of x.now ≡ c → by_counts (result_ok c) Err (λ k. run_from_in n x.now k.signals k.states s es) ≡ run_from (opening x.now n) s es
      go (Ok k) h = run-from-table n x.now s es k h
      go (Err r) h = sym (run-from-refused n x.now s es r h)

  -- "thin functions read a row"
  pub opened-row : (s : ℕ) → row_by (opened_of x n) s ≡ row_read x.now s
  opened-row s = go (checked_of x.now) refl
    where
      go : (c : Result Counts Refusal) → checked_of x.now ≡ c → by_counts (result_ok c) Err (λ k. row_in x.now k.signals k.states s) ≡ row_read x.now s
      go (Ok k) h = row-table x.now s k h
      go (Err r) h = row-refused x.now s r h

  -- "Join two recordings, each filling the other's gaps, and run the table from state 0 over all possible completions."
  pub opened-judges : (a b : List ℕ) → judged_by (opened_of x n) a b ≡ judged_of x.now a b
  opened-judges a b = go (checked_of x.now) refl
    where
      go : (c : Result Counts Refusal) → checked_of x.now ≡ c → by_counts (result_ok c) Err (λ k. judged_in x.now k.signals k.states a b) ≡ judged_of x.now a b
      go (Ok k) h = judged-table x.now a b k h
      go (Err r) h = sym (judged-refused x.now a b r h)

  -- "A site runs up to 64 tunnels on one table"
  opened-agrees : (d : List Watch) (by : ℕ → ℕ → Outcome) (of : Outcome) → Agrees x.now d by of
      → by_counts (result_ok (checked_of x.now)) (refused d) (λ k. by k.signals k.states) ≡ of
  opened-agrees d by of a = go (checked_of x.now) refl
    where
      go : (c : Result Counts Refusal) → checked_of x.now ≡ c → by_counts (result_ok c) (refused d) (λ k. by k.signals k.states) ≡ of
      go (Ok k) h = a.table k h
      go (Err y) h = sym (a.wrong y h)

  opened-serves : (d : List Watch) (r : Request) → by_counts (result_ok (checked_of x.now)) (refused d) (λ k. served_in x.now k.signals k.states r d) ≡ served_of x.now r d
  opened-serves d r = opened-agrees d (λ P S. served_in x.now P S r d) (served_of x.now r d) (served-agrees x.now d r)

  pub opened-freshens : (d : List Watch) → freshened_by (opened_of x n) d ≡ fresh_of (opening x.now n) d
  opened-freshens d = opened-agrees d (λ P S. fresh_in n x.now P S d) (fresh_of (opening x.now n) d) (fresh-agrees x.now d n)

  pub opened-posts : (d : List Watch) (i e : ℕ) → posted_by (opened_of x n) d i e ≡ post_of (opening x.now n) d i e
  opened-posts d i e = opened-serves d (Post n i e)

  pub opened-turns : (d : List Watch) (l : ℕ) → turned_by (opened_of x n) d l ≡ turn_of (opening x.now n) d l
  opened-turns d l = opened-serves d (Turn n l)

-- ---- many steps

module _ (x : Bor (List ℕ)) (n : ℕ) (h : is_table x.now ≡ true) where
  abbrev counts : Counts
  counts = record { signals = signals_in x.now; states = states_in x.now }

  abbrev Σ : Alphabet
  Σ = alphabet_in x.now counts.signals

  -- a step of an event that can happen arrives at the successor
  step-to : (s e : ℕ) → s < counts.states → Event Σ e
      → state_after (run_from_in n x.now counts.signals counts.states (state_of n s) (e ∷ [])) (state_of n s) ≡ state_of n (successor x.now counts.signals s e)
  step-to s e l b =
      ap (λ (r : Result (Arrival State) Refusal). state_after r (state_of n s)) (run-from-table n x.now (state_of n s) (e ∷ []) counts (rw h))
      ∙ rw (h, eq-eqb n n refl, lt-ltb s counts.states l, event-test Σ e b)

  steps-to : (s : ℕ) (es : List ℕ) → s < counts.states → Word Σ es
      → stepped_in n x.now counts.signals counts.states (state_of n s) es ≡ state_of n (follow (monitor_of x.now) s es)
  unfolding stepped_in
  steps-to s [] l w = refl
  steps-to s (e ∷ es) l w =
      ap (λ (r : State). stepped_in n x.now counts.signals counts.states r es) (step-to s e l w.0)
      ∙ steps-to (successor x.now counts.signals s e) es (table-inside x.now h s e l w.0) w.1

  -- "A checked table is opened once and stepped many times": event by event, the steps follow the table's monitor
  pub stepped-all : (s : ℕ) (es : List ℕ) → s < states_in x.now → Word Σ es → stepped_all (opened_of x n) (state_of n s) es ≡ state_of n (follow (monitor_of x.now) s es)
  stepped-all s es l w = rw h (steps-to s es l w)

-- ---- any opened table

-- where counts of 0 and 0 come to what a refused opening does, all that is done with the counts is done with the two
-- numbers
by-counts : {A : Type 0} (c : Option Counts) (refuse : Refusal → A) (f : ℕ → ℕ → A) → f 0 0 ≡ refuse WrongTable
    → by_counts c refuse (λ k. f k.signals k.states) ≡ f (counts_of c).signals (counts_of c).states
by-counts (Some c) refuse f e = refl
by-counts None refuse f e = sym e

-- steps over counts of 0 and 0 leave the state as it is
stepped-none : (n : ℕ) (x : List ℕ) (s : State) (es : List ℕ) → stepped_in n x 0 0 s es ≡ s
unfolding stepped_in
stepped-none n x s [] = refl
stepped-none n x s (e ∷ es) = stepped-none n x s es

-- each answer is that of the bytes and two counts, 0 and 0 where opening refused
module _ (t : Opened) where
  abbrev x : List ℕ
  x = t.bytes.now

  abbrev k : Counts
  k = counts_of t.found

  pub outcome-counts : outcome_by t ≡ outcome_in k
  outcome-counts = go t.found
    where
      go : (c : Option Counts) → by_counts c Err outcome_in ≡ outcome_in (counts_of c)
      go (Some c) = refl
      go None = refl

  pub ran-counts : (s : State) (es : List ℕ) → ran_by t s es ≡ run_from_in t.number x k.signals k.states s es
  ran-counts s es = by-counts t.found Err (λ P S. run_from_in t.number x P S s es) refl

  pub row-counts : (s : ℕ) → row_by t s ≡ row_in x k.signals k.states s
  row-counts s = by-counts t.found Err (λ P S. row_in x P S s) refl

  pub stepped-counts : (s : State) (es : List ℕ) → stepped_all t s es ≡ stepped_in t.number x k.signals k.states s es
  stepped-counts s es = by-counts t.found (λ r. s) (λ P S. stepped_in t.number x P S s es) (stepped-none t.number x s es)

  pub judged-counts : (a b : List ℕ) → judged_by t a b ≡ judged_in x k.signals k.states a b
  unfolding judged_in
  judged-counts a b = by-counts t.found Err (λ P S. judged_in x P S a b) refl

  pub freshened-counts : (d : List Watch) → freshened_by t d ≡ fresh_in t.number x k.signals k.states d
  unfolding fresh_in
  freshened-counts d = by-counts t.found (refused d) (λ P S. fresh_in t.number x P S d) refl

  pub posted-counts : (d : List Watch) (i e : ℕ) → posted_by t d i e ≡ post_in t.number x k.signals k.states d i e
  unfolding post_in
  posted-counts d i e = by-counts t.found (refused d) (λ P S. post_in t.number x P S d i e) refl

  pub turned-counts : (d : List Watch) (l : ℕ) → turned_by t d l ≡ turn_in t.number x k.signals k.states d l
  unfolding turn_in
  turned-counts d l = by-counts t.found (refused d) (λ P S. turn_in t.number x P S d l) refl
