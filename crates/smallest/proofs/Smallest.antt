-- The table of a residual system: its form, order and verdicts, and that it is smallest. A system that has none leaves more than 256 remaining properties.
use mathlib.Core.Path.{◌≡◌, refl, sym, ◌∙◌, subst}
use mathlib.Core.Logic.{◌↔◌}
use mathlib.Core.List.{List}
use Prim.Native.Nat.{ℕ, ◌≤◌}
use native.Mathlib.Omega.{arith}
use lib.ListN.{length}
use Rattle.meaning.specs.Traces.{Alphabet, Word}
use Rattle.meaning.specs.Verdicts.{Property, Judged, MoreThan}
use Rattle.meaning.specs.Monitors.{Monitor, Over, shows, ShowsVerdicts, Renumbered, BreadthFirst}
use Rattle.meaning.specs.TableFiles.{states_in, monitor_of}
use Rattle.meaning.specs.declared.Verdict.{Verdict}
use Rattle.residuals.specs.System.{System}
use Rattle.walk.specs.Explore.{Explored, within, beyond, explore}
use Rattle.walk.proofs.Closed.{Closed}
use Rattle.walk.proofs.Ends.{closed-if, more-if, not-more-if}
use Rattle.moore.specs.Reduced.{Reduced, SameVerdicts, SameRows}
use Rattle.moore.specs.Grouping.{Machine}
use Rattle.moore.specs.Quotient.{reduced}
use Rattle.moore.proofs.Reduction.{reduced-over, reduced-breadth-first, reduced-reduced}
use Rattle.moore.proofs.Minimal.{smallest, unique}
use Rattle.smallest.specs.Table.{most_states, Table, TooMany, reduced_bytes, classes_of, table_of}
use Rattle.smallest.proofs.Agreement.{over-same, shows_same, reduced-same, breadth-first-same}
use Rattle.smallest.proofs.Classes.{machine-of, in_order, reduced-judged}
use Rattle.smallest.proofs.Tables.{OfSignals, Written}
use Rattle.smallest.proofs.Reducing.{reduced-written, reduced-rows}

-- t is a table over P signals that shows the verdicts of the property L, and no two of its states are alike
pub record Smallest (Σ : Alphabet) (P : ℕ) (L : Property) (t : List ℕ) : Type 0 where
  pub written : Written Σ P t
  pub over : Over Σ (monitor_of t)
  pub order : BreadthFirst Σ (monitor_of t)
  pub reduced : Reduced Σ (monitor_of t)
  pub judged : (w : List ℕ) → Word Σ w → (v : Verdict) → (shows (monitor_of t) w ≡ v) ↔ Judged Σ L w v
  pub few : ¬ MoreThan Σ L most_states

module _ {Σ : Alphabet} {P : ℕ} {L : Property} {t : List ℕ} (h : Smallest Σ P L t) where
  pub shows-verdicts : ShowsVerdicts Σ L (monitor_of t)
  unfolding ShowsVerdicts
  shows-verdicts w a = (h.judged w a (shows (monitor_of t) w)).0 refl

  module _ (m : Monitor) (o : Over Σ m) (s : ShowsVerdicts Σ L m) where
    same-verdicts : SameVerdicts Σ (monitor_of t) m
    unfolding ShowsVerdicts
    same-verdicts = record { same = λ w a. (h.judged w a (shows m w)).1 (s w a) }

    pub fewest-states : states_in t ≤ m.states
    fewest-states = smallest h.over o h.reduced same-verdicts

    pub renumbered : m.states ≡ states_in t → Renumbered Σ (monitor_of t) m
    renumbered q = unique h.over o h.reduced same-verdicts q

module _ {Σ : Alphabet} {P : ℕ} (p : OfSignals Σ P) {L : Property} (S : System Σ L) where
  walked : (keys : List S.Key) (rows : List (List ℕ)) → explore S.same S.step S.start Σ most_states ≡ within keys rows
      → Smallest Σ P L (reduced_bytes Σ P (length rows) rows (classes_of S keys))
  walked keys rows q = record {
    written = reduced-written p M low;
    over = over-same o R;
    order = breadth-first-same o R (reduced-breadth-first M (in_order S C));
    reduced = reduced-same o R (reduced-reduced M (in_order S C));
    judged = λ w a v.
        let e : shows small w ≡ shows (monitor_of (reduced_bytes Σ P (length rows) rows (classes_of S keys))) w = (shows_same o R).same w a in
        let j = reduced-judged S C p.live w a v in
        (λ x. j.0 (e ∙ x), λ x. sym e ∙ j.1 x);
    few = not-more-if S most_states (omega arith) q;
  }
    where
      C : Closed S most_states keys rows
      C = closed-if S most_states (omega arith) q

      M : Machine Σ (length rows) rows (classes_of S keys)
      M = machine-of S C

      low : length rows ≤ most_states
      low = rw C.count C.few

      small : Monitor
      small = reduced Σ (length rows) rows (classes_of S keys)

      o : Over Σ small
      o = reduced-over M

      R : SameRows Σ small (monitor_of (reduced_bytes Σ P (length rows) rows (classes_of S keys)))
      R = reduced-rows p M low

  -- the outcome, by how the walk ends
  pub table-within : (keys : List S.Key) (rows : List (List ℕ)) → explore S.same S.step S.start Σ most_states ≡ within keys rows
      → table_of S P ≡ Table (reduced_bytes Σ P (length rows) rows (classes_of S keys))
  unfolding table_of
  table-within keys rows q = rw (q, table_of)

  pub table-beyond : (keys : List S.Key) (k : S.Key) → explore S.same S.step S.start Σ most_states ≡ beyond keys k → table_of S P ≡ TooMany
  unfolding table_of
  table-beyond keys k q = rw (q, table_of)

  pub table-smallest : (t : List ℕ) → table_of S P ≡ Table t → Smallest Σ P L t
  table-smallest t e = go (explore S.same S.step S.start Σ most_states) refl
    where
      go : (v : Explored S.Key (List (List ℕ))) → explore S.same S.step S.start Σ most_states ≡ v → Smallest Σ P L t
      go (within keys rows) q = let b : reduced_bytes Σ P (length rows) rows (classes_of S keys) ≡ t = cc (table-within keys rows q) in subst (Smallest Σ P L) b (walked keys rows q)
      go (beyond keys k) q = let z : ◌≡◌ {A = ℕ} 0 1 = cc (table-beyond keys k q) in absurd (omega arith)

  pub too_many : table_of S P ≡ TooMany → MoreThan Σ L most_states
  too_many e = go (explore S.same S.step S.start Σ most_states) refl
    where
      go : (v : Explored S.Key (List (List ℕ))) → explore S.same S.step S.start Σ most_states ≡ v → MoreThan Σ L most_states
      go (within keys rows) q = let z : ◌≡◌ {A = ℕ} 0 1 = cc (table-within keys rows q) in absurd (omega arith)
      go (beyond keys k) q = more-if S most_states (omega arith) q
