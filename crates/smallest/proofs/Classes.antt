-- The machine of a walk that closed: its classes are judged by continuations, and after every word its reduced monitor shows the verdict there is.
use mathlib.Core.Path.{◌≡◌, refl, sym, ap, ◌∙◌, subst}
use mathlib.Core.Logic.{◌⊎◌, ◌↔◌, inl, inr}
use mathlib.Core.Bool.{Bool, true, false, cond}
use mathlib.Core.List.{List, ◌++◌}
use Prim.Native.Nat.{ℕ, ◌≤◌, ◌<◌}
use native.Mathlib.Omega.{arith}
use lib.ListN.{length, get_or}
use lib.Dec.{T}
use Rattle.sequences.proofs.Loops.{get_d-tab}
use Rattle.meaning.specs.Traces.{Alphabet, Word}
use Rattle.meaning.specs.Verdicts.{Property, NoneSatisfies, AllSatisfy, NeverDecided, Judged}
use Rattle.meaning.specs.Monitors.{follow, shows, BreadthFirst}
use Rattle.meaning.specs.TableFiles.{verdict_of}
use Rattle.meaning.specs.declared.Verdict.{Verdict}
use Rattle.meaning.specs.declared.Verdict.TheVariants.{Undecided, Satisfied, Violated, Moot}
use Rattle.residuals.specs.System.{System}
use Rattle.walk.proofs.Closed.{Closed, stands-in, empty-after, full-after}
use Rattle.moore.specs.Grouping.{machine, Machine}
use Rattle.moore.specs.Quotient.{reduced, Says}
use Rattle.moore.proofs.Words.{word-append, follow-append}
use Rattle.moore.proofs.Reduction.{reduced-shows}
use Rattle.smallest.specs.Table.{class_of, classes_of}
use Rattle.smallest.proofs.Judgements.{Live, judged-one}

-- ---- of a key
abbrev class : Bool → Bool → ℕ
class e f = cond e 2 (cond f 1 0)

class_low : (e f : Bool) → class e f ≤ 2
class_low true f = omega arith
class_low false true = omega arith
class_low false false = omega arith

class-two : (e f : Bool) → class e f ≡ 2 → T e
class-two true f q = tt
class-two false true q = omega arith
class-two false false q = omega arith

class-one : (e f : Bool) → class e f ≡ 1 → T f
class-one true f q = absurd (omega arith)
class-one false true q = tt
class-one false false q = omega arith

class-zero : (e f : Bool) → class e f ≡ 0 → (¬ T e) × (¬ T f)
class-zero true f q = absurd (omega arith)
class-zero false true q = absurd (omega arith)
class-zero false false q = (λ t. t, λ t. t)

module _ {Σ : Alphabet} {L : Property} (S : System Σ L) {limit : ℕ} {keys : List S.Key} {rows : List (List ℕ)} (C : Closed S limit keys rows) where
  state : {s : ℕ} → s < length rows → s < length keys
  state {s} l = subst (λ (n : ℕ). s < n) C.count l

  class-at : (i : ℕ) → i < length keys → get_or (classes_of S keys) i 0 ≡ class (S.empty (get_or keys i S.start)) (S.full (get_or keys i S.start))
  unfolding classes_of class_of
  class-at i l = get_d-tab (length keys) (λ i. class_of S (get_or keys i S.start)) i 0 l

  pub machine-of : Machine Σ (length rows) rows (classes_of S keys)
  machine-of = record {
    some = rw C.count C.some;
    inside = λ s e l h. rw C.count (C.inside s e (state l) h.0);
    class = λ s l. rw (class-at s (state l)) (class_low (S.empty (get_or keys s S.start)) (S.full (get_or keys s S.start)));
  }

  pub in_order : BreadthFirst Σ (machine (length rows) rows (classes_of S keys))
  in_order = C.order (λ s. verdict_of (get_or (classes_of S keys) s 0))

  -- the state on which the machine stands after a word
  abbrev stand : List ℕ → ℕ
  stand w = follow (machine (length rows) rows (classes_of S keys)) 0 w

  module _ (w : List ℕ) (a : Word Σ w) where
    class-after : get_or (classes_of S keys) (stand w) 0 ≡ class (S.empty (get_or keys (stand w) S.start)) (S.full (get_or keys (stand w) S.start))
    class-after = class-at (stand w) (stands-in S C (λ s. verdict_of (get_or (classes_of S keys) s 0)) w a)

    none_after : get_or (classes_of S keys) (stand w) 0 ≡ 2 → NoneSatisfies Σ L w
    none_after q =
        (empty-after S C (λ s. verdict_of (get_or (classes_of S keys) s 0)) w a).0
        (class-two (S.empty (get_or keys (stand w) S.start)) (S.full (get_or keys (stand w) S.start)) (sym class-after ∙ q))

    all_after : get_or (classes_of S keys) (stand w) 0 ≡ 1 → AllSatisfy Σ L w
    all_after q =
        (full-after S C (λ s. verdict_of (get_or (classes_of S keys) s 0)) w a).0
        (class-one (S.empty (get_or keys (stand w) S.start)) (S.full (get_or keys (stand w) S.start)) (sym class-after ∙ q))

    neither-after : get_or (classes_of S keys) (stand w) 0 ≡ 0 → (¬ NoneSatisfies Σ L w) × (¬ AllSatisfy Σ L w)
    neither-after q =
        let z = class-zero (S.empty (get_or keys (stand w) S.start)) (S.full (get_or keys (stand w) S.start)) (sym class-after ∙ q) in
        (λ n. z.0 ((empty-after S C (λ s. verdict_of (get_or (classes_of S keys) s 0)) w a).1 n), λ n. z.1 ((full-after S C (λ s. verdict_of (get_or (classes_of S keys) s 0)) w a).1 n))

  -- where the machine stands after further events
  further : (w z : List ℕ) → get_or (classes_of S keys) (follow (machine (length rows) rows (classes_of S keys)) (stand w) z) 0 ≡ get_or (classes_of S keys) (stand (w ++ z)) 0
  further w z = ap (λ (s : ℕ). get_or (classes_of S keys) s 0) (sym (follow-append (machine (length rows) rows (classes_of S keys)) 0 w z))

  says-judged : (w : List ℕ) → Word Σ w → (v : Verdict) → Says Σ (length rows) rows (classes_of S keys) (stand w) v → Judged Σ L w v
  unfolding NeverDecided
  says-judged w a Satisfied h = all_after w a h
  says-judged w a Violated h = none_after w a h
  says-judged w a Moot h = λ z b. neither-after (w ++ z) (word-append Σ w z a b) (sym (further w z) ∙ h z b)
  says-judged w a Undecided h = ((neither-after w a h.0).0, (neither-after w a h.0).1, λ m. later m h.1.brings)
    where
      z : List ℕ
      z = h.1.by

      later : NeverDecided Σ L w
          → (get_or (classes_of S keys) (follow (machine (length rows) rows (classes_of S keys)) (stand w) z) 0 ≡ 1) ⊎ (get_or (classes_of S keys) (follow (machine (length rows) rows (classes_of S keys)) (stand w) z) 0 ≡ 2) → ⊥
      later m (inl q) = (m z h.1.word).1 (all_after (w ++ z) (word-append Σ w z a h.1.word) (sym (further w z) ∙ q))
      later m (inr q) = (m z h.1.word).0 (none_after (w ++ z) (word-append Σ w z a h.1.word) (sym (further w z) ∙ q))

  pub reduced-judged : Live Σ → (w : List ℕ) → Word Σ w → (v : Verdict) → (shows (reduced Σ (length rows) rows (classes_of S keys)) w ≡ v) ↔ Judged Σ L w v
  reduced-judged live w a v = (judged v, λ j. judged-one live L w (shows (reduced Σ (length rows) rows (classes_of S keys)) w) v (judged (shows (reduced Σ (length rows) rows (classes_of S keys)) w) refl) j)
    where
      judged : (v : Verdict) → shows (reduced Σ (length rows) rows (classes_of S keys)) w ≡ v → Judged Σ L w v
      judged v q = says-judged w a v ((reduced-shows machine-of w a v).0 q)
