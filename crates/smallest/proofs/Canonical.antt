-- Two tables over the same events are equal exactly if the verdicts are, after every word.
use mathlib.Core.Path.{◌≡◌, refl, sym, ap, ◌∙◌}
use mathlib.Core.Logic.{◌↔◌}
use mathlib.Core.List.{List}
use Prim.Native.Nat.{ℕ}
use native.Mathlib.Nat.{le_antisymm}
use Rattle.meaning.specs.Traces.{Alphabet, Word}
use Rattle.meaning.specs.Verdicts.{Property, Judged}
use Rattle.meaning.specs.Monitors.{shows, Renumbered}
use Rattle.meaning.specs.TableFiles.{states_in, monitor_of}
use Rattle.meaning.specs.declared.Verdict.{Verdict}
use Rattle.moore.specs.Reduced.{SameVerdicts}
use Rattle.moore.proofs.Minimal.{smallest, unique}
use Rattle.moore.proofs.Canonical.{canonical}
use Rattle.smallest.proofs.Tables.{OfSignals, written_same}
use Rattle.smallest.proofs.Smallest.{Smallest}

module _ {Σ : Alphabet} {P : ℕ} (p : OfSignals Σ P) {L L' : Property} {t t' : List ℕ} (h : Smallest Σ P L t) (h' : Smallest Σ P L' t') where
  -- the verdicts of the two properties are the same
  abbrev Same : Type 0
  Same = (w : List ℕ) → Word Σ w → (v : Verdict) → Judged Σ L w v ↔ Judged Σ L' w v

  verdicts-same : t ≡ t' → Same
  verdicts-same q w a v =
      let e : shows (monitor_of t) w ≡ shows (monitor_of t') w = ap (λ (b : List ℕ). shows (monitor_of b) w) q in
      (λ j. (h'.judged w a v).0 (sym e ∙ (h.judged w a v).1 j), λ j. (h.judged w a v).0 (e ∙ (h'.judged w a v).1 j))

  module _ (j : Same) where
    one_way : SameVerdicts Σ (monitor_of t) (monitor_of t')
    one_way = record { same = λ w a. let v = shows (monitor_of t') w in (h.judged w a v).1 ((j w a v).1 ((h'.judged w a v).0 refl)) }

    other_way : SameVerdicts Σ (monitor_of t') (monitor_of t)
    other_way = record { same = λ w a. sym (one_way.same w a) }

    states-same : states_in t ≡ states_in t'
    states-same = le_antisymm (smallest h.over h'.over h.reduced one_way) (smallest h'.over h.over h'.reduced other_way)

    paired : Renumbered Σ (monitor_of t) (monitor_of t')
    paired = unique h.over h'.over h.reduced one_way (sym states-same)

    tables-same : t ≡ t'
    tables-same = written_same p h.written h'.written (canonical h.over paired h.order h'.order)

  pub tables-equal : (t ≡ t') ↔ ((w : List ℕ) → Word Σ w → (v : Verdict) → Judged Σ L w v ↔ Judged Σ L' w v)
  tables-equal = (verdicts-same, tables-same)
