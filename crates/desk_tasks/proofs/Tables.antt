-- What is done to a desk over bytes and counts: with the counts that checking the bytes found it is what is done over the table, and with counts of none it
-- is refused.
--     Agrees           both, of anything that is done to a desk
--     served-agrees    of a post and a turn
--     fresh-agrees     of making it fresh
use Rattle.std.proofs.Common.{Ok, Err}
use mathlib.Core.Path.{◌≡◌, ap, ◌∙◌}
use mathlib.Core.List.{List, [], ◌∷◌}
use mathlib.Core.Bool.{false, cond}
use Prim.Native.Nat.{ℕ}
use borrow.Author.Tests.{lt-ltb}
use lib.Dec.{ltb}
use lib.ListN.{length}
use Rattle.meaning.specs.TableFiles.{alphabet_in, states_in, checked_of}
use Rattle.meaning.specs.RuleFiles.{first_of}
use Rattle.meaning.specs.Runs.{counts_fit, run_of, ran_in}
use Rattle.meaning.specs.Openings.{opening}
use Rattle.meaning.specs.Desks.{Outcome, refused, desk_checks, watch_at, oldest, after, passed, heard_by, post_in, turn_in, fresh_in, post_of, turn_of, fresh_of, turn_by}
use Rattle.meaning.specs.declared.Counts.{Counts}
use Rattle.meaning.specs.declared.Refusal.{Refusal}
use Rattle.meaning.specs.declared.Refusal.TheVariants.{WrongTable}
use Rattle.meaning.specs.declared.Served.TheVariants as Served
use Rattle.meaning.specs.declared.Watch.{Watch}
use Rattle.table_layout.proofs.Form.{table-counts, table-header, table-verdict, states-some}
use Rattle.table_run.proofs.Answers.{found, no-table, run-table}
use Rattle.desk_tasks.specs.declared.Request.{Request}
use Rattle.desk_tasks.specs.declared.Request.TheVariants.{Post, Turn}
use Rattle.desk_tasks.specs.Surveys.{served_in, served_of}
use Rattle.std.proofs.Common.{Result}
use Rattle.meaning.specs.declared.Arrival.{Arrival}

module _ (t : List ℕ) (d : List Watch) where
  -- over the bytes t and counts, and over the table t
  pub record Agrees (by : ℕ → ℕ → Outcome) (of : Outcome) : Type 0 where
    pub none : (P S : ℕ) → counts_fit t P S ≡ false → by P S ≡ refused d WrongTable
    pub wrong : (x : Refusal) → checked_of t ≡ Err x → of ≡ refused d WrongTable
    pub table : (k : Counts) → checked_of t ≡ Ok k → by k.signals k.states ≡ of

  -- ---- a post and a turn

  served-none : (P S : ℕ) (r : Request) → counts_fit t P S ≡ false → served_in t P S r d ≡ refused d WrongTable
  unfolding post_in turn_in
  served-none P S (Post n i e) q = rw q
  served-none P S (Turn n l) q = rw q

  served-refused : (r : Request) (x : Refusal) → checked_of t ≡ Err x → served_of t r d ≡ refused d WrongTable
  unfolding post_of turn_of
  served-refused (Post n i e) x q = rw (no-table t x q)
  served-refused (Turn n l) x q = rw (no-table t x q)

  -- a turn asks of its steps only what the one that it takes answers
  turn-same : (n l : ℕ) (k : Counts) → checked_of t ≡ Ok k
      → turn_by n (λ s e. ran_in t k.signals k.states s (e ∷ [])) (alphabet_in t k.signals) k.states d l ≡ turn_by n (λ s e. run_of t s (e ∷ [])) (alphabet_in t k.signals) k.states d l
  unfolding turn_by
  turn-same n l k h =
      let i : ℕ = after (length d) l (passed d l) in
      ap (λ (x : Result (Arrival ℕ) Refusal). first_of (refused d) (desk_checks n (alphabet_in t k.signals) k.states d) (cond (ltb (passed d l) (length d)) (heard_by n d i x) (record { answer = Ok (Served.NoneWaits l); desk = d })))
      (run-table t (watch_at d i).state (oldest (watch_at d i) ∷ []) k h)

  served-table : (k : Counts) (r : Request) → checked_of t ≡ Ok k → served_in t k.signals k.states r d ≡ served_of t r d
  unfolding post_in turn_in post_of turn_of
  served-table k (Post n i e) h = let f = found t k h in rw (f.signals, f.states, f.table, table-counts t f.table)
  served-table k (Turn n l) h =
      let f = found t k h in
      ap (λ (o : Outcome). cond (counts_fit t k.signals k.states) o (refused d WrongTable)) (turn-same n l k h) ∙ rw (f.signals, f.states, f.table, table-counts t f.table)

  pub served-agrees : (r : Request) → Agrees (λ P S. served_in t P S r d) (served_of t r d)
  served-agrees r = record { none = λ P S. served-none P S r; wrong = served-refused r; table = λ k. served-table k r }

  -- ---- a fresh desk

  fresh-none : (n P S : ℕ) → counts_fit t P S ≡ false → fresh_in n t P S d ≡ refused d WrongTable
  unfolding fresh_in
  fresh-none n P S q = rw q

  fresh-refused : (n : ℕ) (x : Refusal) → checked_of t ≡ Err x → fresh_of (opening t n) d ≡ refused d WrongTable
  unfolding fresh_of
  fresh-refused n x q = rw (no-table t x q)

  fresh-table : (n : ℕ) (k : Counts) → checked_of t ≡ Ok k → fresh_in n t k.signals k.states d ≡ fresh_of (opening t n) d
  unfolding fresh_in fresh_of
  fresh-table n k h =
      let f = found t k h in
      let some = states-some t (table-header t f.table) in
      rw (f.signals, f.states, f.table, table-counts t f.table, lt-ltb 0 (states_in t) some, table-verdict t f.table 0 some)

  pub fresh-agrees : (n : ℕ) → Agrees (λ P S. fresh_in n t P S d) (fresh_of (opening t n) d)
  fresh-agrees n = record { none = fresh-none n; wrong = fresh-refused n; table = fresh-table n }
