-- What judging recordings answers with the counts of checked bytes, with counts that fit no table, and of bytes that are none.
use mathlib.Core.Path.{◌≡◌}
use mathlib.Core.List.{List, [], ◌∷◌, map}
use mathlib.Core.Bool.{true, false}
use Prim.Native.Nat.{ℕ, zero, suc, ◌<◌}
use native.Mathlib.Omega.{arith}
use lib.ListN.{length, get_or}
use Rattle.sequences.specs.Tabulate.{every}
use Rattle.meaning.specs.Traces.{Alphabet, is_event, Word}
use Rattle.meaning.specs.TableFiles.{is_table, alphabet_in, signals_in, states_in, checked_of}
use Rattle.meaning.specs.Runs.{counts_fit, on_table}
use Rattle.meaning.specs.Recordings.{joined_list, completions, judged_in, judged_of}
use Rattle.meaning.specs.declared.Counts.{Counts}
use Rattle.meaning.specs.declared.Refusal.{Refusal}
use Rattle.meaning.specs.declared.Refusal.TheVariants.{WrongTable}
use Rattle.table_layout.proofs.Form.{event-test, table-counts, table-header, states-some}
use Rattle.table_run.proofs.Answers.{found, no-table, on-way}
use Rattle.completions.proofs.Members.{complete-all, completion-word}
use Rattle.std.proofs.Common.{Ok, Err}

word-events : (Σ : Alphabet) (w : List ℕ) → Word Σ w → (i : ℕ) → i < length w → is_event Σ (get_or w i 0) ≡ true
word-events Σ [] h i l = absurd (omega arith)
word-events Σ (e ∷ w) h zero l = event-test Σ e h.0
word-events Σ (e ∷ w) h (suc i) l = word-events Σ w h.1 i (omega arith)

module _ (t a b : List ℕ) where
  -- no completion of a table leaves it
  stays : (h : is_table t ≡ true)
      → every (map (on_table t (signals_in t) (states_in t) 0) (completions (alphabet_in t (signals_in t)) (signals_in t) (joined_list a b))) ≡ true
  stays h =
      complete-all (alphabet_in t (signals_in t)) (signals_in t) (on_table t (signals_in t) (states_in t) 0) (joined_list a b)
      (λ w c. on-way t h 0 w (states-some t (table-header t h))
      (word-events (alphabet_in t (signals_in t)) w (completion-word (alphabet_in t (signals_in t)) (signals_in t) (joined_list a b) w c)))

  pub judged-table : (k : Counts) → checked_of t ≡ Ok k → judged_in t k.signals k.states a b ≡ judged_of t a b
  unfolding judged_in judged_of
  judged-table k e = let f = found t k e in rw (f.signals, f.states, f.table, table-counts t f.table, stays f.table)

  -- counts that fit no table
  pub judged-none : (Q R : ℕ) → counts_fit t Q R ≡ false → judged_in t Q R a b ≡ Err WrongTable
  unfolding judged_in
  judged-none Q R e = rw e

  pub judged-refused : (x : Refusal) → checked_of t ≡ Err x → judged_of t a b ≡ Err WrongTable
  unfolding judged_of
  judged-refused x e = rw (no-table t x e)
