-- Laws of where a run may start, and of its answer.
use mathlib.Core.Path.{◌≡◌, refl, sym, ◌∙◌}
use mathlib.Core.List.{List, [], ◌∷◌}
use mathlib.Core.Bool.{Bool, true, false, cond}
use Prim.Native.Nat.{ℕ, ◌^◌, ◌≤◌, ◌<◌}
use native.Mathlib.Omega.{arith}
use borrow.Author.Tests.{lt-ltb, le-ltb, leb-true, ltb-true, ltb-false, ne_eqb}
use lib.Dec.{ltb}
use lib.ListN.{length}
use lib.Pow.{pow_mono}
use Rattle.sequences.proofs.Tests.{holds}
use Rattle.meaning.specs.Traces.{is_event}
use Rattle.meaning.specs.TableFiles.{counts_tests, verdict_of, verdict_byte, successor, no_successor, alphabet_in}
use Rattle.meaning.specs.Runs.{decided_from, first_bad, counts_fit, in_table, on_table, ran_in}
use Rattle.meaning.specs.declared.Verdict.{Verdict}
use Rattle.meaning.specs.declared.Refusal.{Refusal}
use Rattle.meaning.specs.declared.Refusal.TheVariants.{WrongEvent, WrongState, WrongTable}
use Rattle.event_lists.specs.Bounds.{NoneAbove}
use Rattle.event_lists.specs.Masks.{first_outside, found_outside}
use Rattle.event_lists.proofs.Laws.{outside-bad, none_above}
use Rattle.table_layout.specs.Masks.{MaskIn}
use Rattle.run_loop.specs.Ends.{end_in}
use Rattle.table_run.specs.Tables.{admission, shown_by}
use Rattle.std.specs.Prelude.{⊤}
use Rattle.std.proofs.Common.{Result, Ok, Err, Option, Some, None, ap}
use Rattle.meaning.specs.declared.Arrival.{Arrival}

-- whether an event can happen, by its successor in the row of state 0
module _ (t : List ℕ) (P e : ℕ) where
  pub possible : e < 2 ^ P → (successor t P 0 e ≡ no_successor → ⊥) → is_event (alphabet_in t P) e ≡ true
  possible h q = rw (lt-ltb e (2 ^ P) h, ne_eqb (successor t P 0 e) no_successor q)

-- where a run may start
module _ (t : List ℕ) (P S s : ℕ) where
  pub record Start : Type 0 where
    pub fits : counts_fit t P S ≡ true
    pub few : P ≤ 4
    pub inside : s < S

  -- whether it may, by its two tests
  abbrev by_tests : Bool → Bool → Result ⊤ Refusal
  by_tests a b = cond a (cond b (Ok tt) (Err WrongState)) (Err WrongTable)

  pub granted : {r : Result ⊤ Refusal} {u : ⊤} → r ≡ admission t P S s → r ≡ Ok u → Start
  granted {r} {u} k l = go (counts_fit t P S) (ltb s S) refl refl (sym k ∙ l)
    where
      go : (a b : Bool) → counts_fit t P S ≡ a → ltb s S ≡ b → by_tests a b ≡ Ok u → Start
      go true true p q e = record { fits = p; few = leb-true P 4 (holds (counts_tests t P S) p 1); inside = ltb-true s S q }
      go true false p q e = let z : ◌≡◌ {A = ℕ} 0 1 = cc in absurd (omega arith)
      go false b p q e = let z : ◌≡◌ {A = ℕ} 0 1 = cc in absurd (omega arith)

  -- the answer of a run that starts, by the first event outside the mask, if one was found
  module _ (es : List ℕ) (a : Start) {m : ℕ} (k : MaskIn t P m) where
    abbrev bad : ℕ
    bad = first_bad (alphabet_in t P) es

    first : first_outside m es ≡ bad
    first = outside-bad (alphabet_in t P) es m k.bits

    none-bad : None ≡ found_outside m es → length es ≤ bad
    none-bad e = go (ltb (first_outside m es) (length es)) refl e
      where
        go : (b : Bool) → ltb (first_outside m es) (length es) ≡ b → None ≡ cond b (Some (first_outside m es)) None → length es ≤ bad
        go true p e = let z : ◌≡◌ {A = ℕ} 0 1 = cc in absurd (omega arith)
        go false p e = omega (arith, first, ltb-false (first_outside m es) (length es) p)

    pub run_ends : (r : Result (Arrival ℕ) Refusal) → r ≡ end_in t P S s es → None ≡ found_outside m es → r ≡ ran_in t P S s es
    run_ends r h e = rw (a.fits, lt-ltb s S a.inside, le-ltb bad (length es) (none-bad e)) h

    -- the events are those that the rows of a run take
    pub run_small : None ≡ found_outside m es → NoneAbove (length es) es 15
    run_small e = none_above (alphabet_in t P) es (none-bad e) (pow_mono {i = P} {j = 4} a.few)

    pub run-outside : (i : ℕ) → Some i ≡ found_outside m es → Err (WrongEvent i) ≡ ran_in t P S s es
    run-outside i e = go (ltb (first_outside m es) (length es)) refl e
      where
        go : (b : Bool) → ltb (first_outside m es) (length es) ≡ b → Some i ≡ cond b (Some (first_outside m es)) None → Err (WrongEvent i) ≡ ran_in t P S s es
        go true p e =
            let found : i ≡ first_outside m es = cc in
            let l : bad < length es = omega (arith, first, ltb-true (first_outside m es) (length es) p) in
            rw (a.fits, lt-ltb s S a.inside, lt-ltb bad (length es) l) (ap (λ (j : ℕ). Err (WrongEvent j)) (found ∙ first))
        go false p e = let z : ◌≡◌ {A = ℕ} 0 1 = cc in absurd (omega arith)

  -- and of one event
  module _ (e : ℕ) (a : Start) where
    module _ (h : is_event (alphabet_in t P) e ≡ true) (r : ℕ) (p : r ≡ successor t P s e) where
      pub step-ended : (v : Verdict) (d : Option ℕ) → in_table t P S s ≡ true → in_table t P S r ≡ true → v ≡ verdict_of (verdict_byte t P r) → d ≡ shown_by t P s r
          → Ok (record { state = r; verdict = v; decided = d }) ≡ ran_in t P S s (e ∷ [])
      unfolding decided_from on_table
      step-ended v d i j q u =
          let k : in_table t P S (successor t P s e) ≡ true = rw p at j in
          rw (a.fits, i, k, lt-ltb s S a.inside, h, q, u, p)

      pub step-off : in_table t P S s ≡ false → Err WrongTable ≡ ran_in t P S s (e ∷ [])
      unfolding on_table
      step-off i = rw (a.fits, i, lt-ltb s S a.inside, h)

      pub step-away : in_table t P S s ≡ true → in_table t P S r ≡ false → Err WrongTable ≡ ran_in t P S s (e ∷ [])
      unfolding on_table
      step-away i j =
          let k : in_table t P S (successor t P s e) ≡ false = rw p at j in
          rw (a.fits, i, k, lt-ltb s S a.inside, h)
