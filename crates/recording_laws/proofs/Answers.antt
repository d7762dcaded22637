-- "Satisfied, violated or moot is answered exactly if every completion's run ends with it; else undecided."
--     over-ends, over-is      of any monitor: a decided answer is that of every completion, and where all end with one, that is answered
--     answer-right            of any table, by runs
--     built-answer            of a built table, by demand 2
use mathlib.Core.Path.{◌≡◌, refl, sym, ap, subst, ◌∙◌}
use mathlib.Core.List.{List, [], ◌∷◌}
use mathlib.Core.Bool.{Bool, true, false, cond}
use Prim.Native.Nat.{ℕ, ◌/◌}
use native.Mathlib.Omega.{arith}
use borrow.Author.Tests.{eqb-true, eq-eqb, ne_eqb}
use lib.Dec.{eqb}
use lib.ListN.{length}
use Rattle.sequences.proofs.Tests.{never}
use Rattle.meaning.specs.Traces.{Alphabet, is_event, Word}
use Rattle.meaning.specs.Monitors.{Monitor, follow}
use Rattle.meaning.specs.RuleFiles.{Rule, alphabet_of}
use Rattle.meaning.specs.TableFiles.{alphabet_in, signals_in, monitor_of, verdict_number}
use Rattle.meaning.specs.Runs.{decides, run_of, end_of}
use Rattle.meaning.specs.Recordings.{joined_at, joined_list, Completion, completions, all_end, verdict_over, judged_of}
use Rattle.meaning.specs.declared.Verdict.{Verdict}
use Rattle.meaning.specs.declared.Verdict.TheVariants.{Undecided, Satisfied, Violated, Moot}
use Rattle.meaning.specs.declared.Seen.{Seen}
use Rattle.table_layout.proofs.Form.{test-event, event-test, table-header, states-some}
use Rattle.building.specs.Build.{BuiltRight}
use Rattle.building.proofs.Running.{word-run}
use Rattle.completions.proofs.Members.{all-complete, complete-all, not-all, completion-word}
use Rattle.recording_laws.specs.Laws.{EndsWith, AnswerRight, BuiltAnswer}
use Rattle.recording_laws.proofs.Unrefused.{Unrefused, unrefused, some-completion}
use Rattle.std.proofs.Common.{Result, Ok}
use Rattle.meaning.specs.declared.Arrival.{Arrival}
use Rattle.meaning.specs.declared.Refusal.{Refusal}

-- verdicts with the same number are the same
number_same : (u v : Verdict) → verdict_number u ≡ verdict_number v → u ≡ v
number_same Undecided Undecided e = refl
number_same Undecided Satisfied e = absurd (omega arith)
number_same Undecided Violated e = absurd (omega arith)
number_same Undecided Moot e = absurd (omega arith)
number_same Satisfied Undecided e = absurd (omega arith)
number_same Satisfied Satisfied e = refl
number_same Satisfied Violated e = absurd (omega arith)
number_same Satisfied Moot e = absurd (omega arith)
number_same Violated Undecided e = absurd (omega arith)
number_same Violated Satisfied e = absurd (omega arith)
number_same Violated Violated e = refl
number_same Violated Moot e = absurd (omega arith)
number_same Moot Undecided e = absurd (omega arith)
number_same Moot Satisfied e = absurd (omega arith)
number_same Moot Violated e = absurd (omega arith)
number_same Moot Moot e = refl

-- ---- any monitor

module _ (Σ : Alphabet) (P : ℕ) (rs : List Seen) (m : Monitor) where
  abbrev ws : List (List ℕ)
  ws = completions Σ P rs

  abbrev ended : List ℕ → Verdict
  ended w = m.verdict (follow m 0 w)

  abbrev shown : Verdict → List ℕ → Bool
  shown v w = eqb (verdict_number (ended w)) (verdict_number v)

  ends-all : (v : Verdict) → all_end m ws v ≡ true → (w : List ℕ) → Completion Σ P rs w → ended w ≡ v
  unfolding all_end
  ends-all v h w c = number_same (ended w) v (eqb-true (verdict_number (ended w)) (verdict_number v) (all-complete Σ P (shown v) rs h w c))

  all-ends : (v : Verdict) → ((w : List ℕ) → Completion Σ P rs w → ended w ≡ v) → all_end m ws v ≡ true
  unfolding all_end
  all-ends v h = complete-all Σ P (shown v) rs (λ w c. eq-eqb (verdict_number (ended w)) (verdict_number v) (ap verdict_number (h w c)))

  -- where one ends otherwise
  one-ends : (u v : Verdict) → (verdict_number u ≡ verdict_number v → ⊥) → (w : List ℕ) → Completion Σ P rs w → ended w ≡ u → all_end m ws v ≡ false
  unfolding all_end
  one-ends u v n w c e = not-all Σ P (shown v) rs w c (ne_eqb (verdict_number (ended w)) (verdict_number v) (λ q. n (sym (ap verdict_number e) ∙ q)))

  pub over-ends : decides (verdict_over m ws) ≡ true → (w : List ℕ) → Completion Σ P rs w → ended w ≡ verdict_over m ws
  over-ends h w c = go (all_end m ws Satisfied) (all_end m ws Violated) (all_end m ws Moot) refl refl refl h
    where
      go : (x y z : Bool) → all_end m ws Satisfied ≡ x → all_end m ws Violated ≡ y → all_end m ws Moot ≡ z → decides (cond x Satisfied (cond y Violated (cond z Moot Undecided))) ≡ true
          → ended w ≡ cond x Satisfied (cond y Violated (cond z Moot Undecided))
      go true y z p q r d = ends-all Satisfied p w c
      go false true z p q r d = ends-all Violated q w c
      go false false true p q r d = ends-all Moot r w c
      go false false false p q r d = never (sym d)

  pub over-is : (w : List ℕ) → Completion Σ P rs w → (u : Verdict) → decides u ≡ true → ((v : List ℕ) → Completion Σ P rs v → ended v ≡ u) → verdict_over m ws ≡ u
  over-is w c Undecided d h = never (sym d)
  over-is w c Satisfied d h = rw (all-ends Satisfied h)
  over-is w c Violated d h = rw (one-ends Violated Satisfied (λ q. omega (arith, q)) w c (h w c), all-ends Violated h)
  over-is w c Moot d h =
      rw (one-ends Moot Satisfied (λ q. omega (arith, q)) w c (h w c), one-ends Moot Violated (λ q. omega (arith, q)) w c (h w c), all-ends Moot h)

-- ---- any table

module _ (t a b : List ℕ) (v : Verdict) (h : Unrefused t a b v) where
  abbrev Σₜ : Alphabet
  Σₜ = alphabet_in t (signals_in t)

  pub completion : (w : List ℕ) × Completion Σₜ (signals_in t) (joined_list a b) w
  completion = some-completion Σₜ (signals_in t) (length a / 2) (joined_at a b) h.some

  run_is : (w : List ℕ) → Completion Σₜ (signals_in t) (joined_list a b) w → run_of t 0 w ≡ end_of (monitor_of t) 0 w
  run_is w c = word-run t h.table 0 w (states-some t (table-header t h.table)) (completion-word Σₜ (signals_in t) (joined_list a b) w c)

  pub ends_with : (u : Verdict) (w : List ℕ) → Completion Σₜ (signals_in t) (joined_list a b) w → (monitor_of t).verdict (follow (monitor_of t) 0 w) ≡ u → EndsWith (run_of t 0 w) u
  ends_with u w c e = subst (λ (r : Result (Arrival ℕ) Refusal). EndsWith r u) (sym (run_is w c)) e

  with-ends : (u : Verdict) (w : List ℕ) → Completion Σₜ (signals_in t) (joined_list a b) w → EndsWith (run_of t 0 w) u → (monitor_of t).verdict (follow (monitor_of t) 0 w) ≡ u
  with-ends u w c e = subst (λ (r : Result (Arrival ℕ) Refusal). EndsWith r u) (run_is w c) e

  pub answer_is : (u : Verdict) → decides u ≡ true → ((w : List ℕ) → Completion Σₜ (signals_in t) (joined_list a b) w → (monitor_of t).verdict (follow (monitor_of t) 0 w) ≡ u) → v ≡ u
  answer_is u d k = sym h.answer ∙ over-is Σₜ (signals_in t) (joined_list a b) (monitor_of t) completion.0 completion.1 u d k

  pub answer-ends : decides v ≡ true → (w : List ℕ) → Completion Σₜ (signals_in t) (joined_list a b) w → (monitor_of t).verdict (follow (monitor_of t) 0 w) ≡ v
  answer-ends d w c = over-ends Σₜ (signals_in t) (joined_list a b) (monitor_of t) (ap decides h.answer ∙ d) w c ∙ h.answer

  unrefused-right : AnswerRight t a b v
  unrefused-right = record {
    some = completion;
    ends = λ d w c. ends_with v w c (answer-ends d w c);
    only = λ u d k. answer_is u d (λ w c. with-ends u w c (k w c));
  }

pub answer-right : (t a b : List ℕ) (v : Verdict) → judged_of t a b ≡ Ok v → AnswerRight t a b v
answer-right t a b v h = unrefused-right t a b v (unrefused t a b v h)

-- ---- a built table

-- the completions of alphabets with the same events are the same
completion-same : (Σ Σ' : Alphabet) (P : ℕ) → ((e : ℕ) → is_event Σ' e ≡ is_event Σ e) → (rs : List Seen) (w : List ℕ) → Completion Σ P rs w → Completion Σ' P rs w
completion-same Σ Σ' P q [] [] c = tt
completion-same Σ Σ' P q [] (e ∷ w) c = absurd c
completion-same Σ Σ' P q (r ∷ rs) [] c = absurd c
completion-same Σ Σ' P q (r ∷ rs) (e ∷ w) c = (test-event Σ' e (q e ∙ event-test Σ e c.0), c.1, completion-same Σ Σ' P q rs w c.2)

module _ (file t : List ℕ) (built : BuiltRight file t) (a b : List ℕ) (v : Verdict) (h : judged_of t a b ≡ Ok v) where
  abbrev r : Rule
  r = built.rule

  u-right : Unrefused t a b v
  u-right = unrefused t a b v h

  to-rule : (w : List ℕ) → Completion (alphabet_in t (signals_in t)) (signals_in t) (joined_list a b) w → Completion (alphabet_of r) r.signals (joined_list a b) w
  to-rule w c =
      completion-same (alphabet_in t (signals_in t)) (alphabet_of r) r.signals (λ e. sym (built.demand_3.events e)) (joined_list a b) w
      (subst (λ (P : ℕ). Completion (alphabet_in t (signals_in t)) P (joined_list a b) w) built.demand_3.signals c)

  from-rule : (w : List ℕ) → Completion (alphabet_of r) r.signals (joined_list a b) w → Completion (alphabet_in t (signals_in t)) (signals_in t) (joined_list a b) w
  from-rule w c =
      completion-same (alphabet_of r) (alphabet_in t (signals_in t)) (signals_in t) built.demand_3.events (joined_list a b) w
      (subst (λ (P : ℕ). Completion (alphabet_of r) P (joined_list a b) w) (sym built.demand_3.signals) c)

  word_of : (w : List ℕ) → Completion (alphabet_of r) r.signals (joined_list a b) w → Word (alphabet_of r) w
  word_of w c = completion-word (alphabet_of r) r.signals (joined_list a b) w c

  pub built-answer : BuiltAnswer r a b v
  built-answer = record {
    some = let k = completion t a b v u-right in (k.0, to-rule k.0 k.1);
    judged = λ d w c. (built.demand_2.verdicts t built.built w (word_of w c) v).0 (answer-ends t a b v u-right d w (from-rule w c));
    only = λ u d k.
        answer_is t a b v u-right u d
        (λ w c. (built.demand_2.verdicts t built.built w (word_of w (to-rule w c)) u).1 (k w (to-rule w c)));
  }
