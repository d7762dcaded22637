-- Hearing as three tests.
--     by_tests, few-first     where the signals are at most four
--     barred                  whether an event can happen, as the code asks it
--     hear-ended              what hearing comes to where each test is passed
use Rattle.std.proofs.Common.{Result, Err}
use mathlib.Core.Path.{◌≡◌, ap, sym, ◌∙◌}
use mathlib.Core.Bool.{Bool, false, cond, not, ◌&&◌}
use mathlib.Core.List.{[], ◌∷◌, List}
use Prim.Native.Nat.{ℕ, ◌≤◌, ◌<◌}
use borrow.Author.Tests.{le-leb, lt-ltb}
use lib.Dec.{ltb, eqb}
use Rattle.meaning.specs.Bytes.{bit}
use Rattle.meaning.specs.RuleFiles.{first_of}
use Rattle.meaning.specs.TableFiles.{successor, verdict_byte, verdict_of}
use Rattle.meaning.specs.Runs.{in_table}
use Rattle.meaning.specs.Openings.{state_of}
use Rattle.meaning.specs.Desks.{oldest, without_oldest}
use Rattle.meaning.specs.declared.Refusal.{Refusal}
use Rattle.meaning.specs.declared.Refusal.TheVariants.{WrongEvent, WrongState, WrongTable}
use Rattle.meaning.specs.declared.Verdict.{Verdict}
use Rattle.meaning.specs.declared.Watch.{Watch}
use Rattle.meaning.specs.declared.Served.TheVariants as Served
use Rattle.desk_tasks.specs.declared.Task.{Task}
use Rattle.desk_tasks.specs.declared.Service.{Service}
use Rattle.desk_tasks.specs.Tasks.{changing, hearing, heard_from}

pub barred : (m e : ℕ) {x : ℕ} {r b : Bool} → x ≡ e → r ≡ eqb (bit x m) 1 → not r ≡ b → not (eqb (bit e m) 1) ≡ b
barred m e p q t = ap (λ (k : ℕ). not (eqb (bit k m) 1)) (sym p) ∙ ap not (sym q) ∙ t

-- 13, 12 and 14, where these tests hold
abbrev pub by_tests : Result Service Refusal → Bool → Bool → Bool → Result Service Refusal
by_tests y outside barred off = first_of Err ((outside, WrongState) ∷ (barred, WrongEvent 0) ∷ (off, WrongTable) ∷ []) y

module _ (t : List ℕ) (s : Task) (w : Watch) (i : ℕ) where
  -- where the event leads, whether the way there is the table's, and what is then heard
  abbrev pub leads : ℕ
  leads = successor t s.signals w.state (oldest w)

  abbrev pub way_here : Bool
  way_here = in_table t s.signals s.states w.state && in_table t s.signals s.states leads

  abbrev pub heard_here : Result Service Refusal
  heard_here = hearing s.opening w i leads (verdict_of (verdict_byte t s.signals leads))

  pub few-first : s.signals ≤ 4 → heard_from t s w i ≡ by_tests heard_here (not (ltb w.state s.states)) (not (eqb (bit (oldest w) s.mask) 1)) (not way_here)
  few-first few =
      ap (λ (b : Bool). cond b (Err WrongTable) (by_tests heard_here (not (ltb w.state s.states)) (not (eqb (bit (oldest w) s.mask) 1)) (not way_here)))
      (ap not (le-leb s.signals 4 few))

  module _
      (few : s.signals ≤ 4)
      (inside : w.state < s.states)
      {e x : ℕ}
      {r : Bool}
      (old : e ≡ oldest w)
      (wide : x ≡ e)
      (can : r ≡ eqb (bit x s.mask) 1)
      (q : not r ≡ false)
      {to : ℕ}
      {f : Bool}
      (go : to ≡ successor t s.signals w.state e)
      (way : f ≡ (in_table t s.signals s.states w.state && in_table t s.signals s.states to)) where
    there : to ≡ leads
    there = go ∙ ap (successor t s.signals w.state) old

    way-so : {b : Bool} → not f ≡ b → not way_here ≡ b
    way-so h = ap (λ (y : ℕ). not (in_table t s.signals s.states w.state && in_table t s.signals s.states y)) (sym there) ∙ ap not (sym way) ∙ h

    passed_to : (b : Bool) → not f ≡ b → heard_from t s w i ≡ cond b (Err WrongTable) heard_here
    passed_to b h =
        few-first few
        ∙ ap (λ (x : Bool). by_tests heard_here x (not (eqb (bit (oldest w) s.mask) 1)) (not way_here)) (ap not (lt-ltb w.state s.states inside))
        ∙ ap (λ (x : Bool). by_tests heard_here false x (not way_here)) (barred s.mask (oldest w) (wide ∙ old) can q)
        ∙ ap (λ (x : Bool). by_tests heard_here false false x) (way-so h)

    pub hear-ended : not f ≡ false → {v : Verdict} {u : Watch} → v ≡ verdict_of (verdict_byte t s.signals to) → u ≡ without_oldest w to v
        → changing i u (Served.Heard i e (state_of s.opening to) v) ≡ heard_from t s w i
    hear-ended h p z = rw (z, p, old, there) (sym (passed_to false h))
