-- What runs of an opening answer.
--     run-from-table     with the counts of checked bytes the answers are those of the opening
--     run-from-none      counts that no table of so many bytes has are refused by 14
--     run-from-refused   bytes that are no table are refused by 14
use mathlib.Core.Path.{◌≡◌, ap, sym, ◌∙◌}
use mathlib.Core.List.{List}
use mathlib.Core.Bool.{Bool, true, false, cond}
use Prim.Native.Nat.{ℕ}
use Rattle.meaning.specs.TableFiles.{checked_of}
use Rattle.meaning.specs.Runs.{run_of, counts_fit}
use Rattle.meaning.specs.Openings.{opening, own_run, run_from, run_from_in}
use Rattle.meaning.specs.declared.Refusal.{Refusal}
use Rattle.meaning.specs.declared.Refusal.TheVariants.{WrongTable}
use Rattle.meaning.specs.declared.State.{State}
use Rattle.table_layout.proofs.Form.{table-counts}
use Rattle.table_run.proofs.Answers.{found, no-table, run-table}
use Rattle.meaning.specs.declared.Counts.{Counts}
use Rattle.std.proofs.Common.{Result, Ok, Err}
use Rattle.meaning.specs.declared.Arrival.{Arrival}

module _ (n : ℕ) (t : List ℕ) (s : State) (es : List ℕ) where
  -- an answer that stands where the test holds, by what the run of the table is
  abbrev answer : Bool → Result (Arrival ℕ) Refusal → Result (Arrival State) Refusal
  answer b r = cond b (own_run n s r) (Err WrongTable)

  pub run-from-table : (c : Counts) → checked_of t ≡ Ok c → run_from_in n t c.signals c.states s es ≡ run_from (opening t n) s es
  run-from-table c h =
      let f = found t c h in
      let fit : counts_fit t c.signals c.states ≡ true = rw (f.signals, f.states) (table-counts t f.table) in
      ap (λ (r : Result (Arrival ℕ) Refusal). answer (counts_fit t c.signals c.states) r) (run-table t s.number es c h) ∙ ap (λ (b : Bool). answer b (run_of t s.number es)) (fit ∙ sym f.table)

  pub run-from-none : (P S : ℕ) → counts_fit t P S ≡ false → run_from_in n t P S s es ≡ Err WrongTable
  run-from-none P S h = rw h

  pub run-from-refused : (x : Refusal) → checked_of t ≡ Err x → run_from (opening t n) s es ≡ Err WrongTable
  run-from-refused x h = rw (no-table t x h)
