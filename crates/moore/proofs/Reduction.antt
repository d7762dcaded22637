-- The reduced monitor of a machine that is numbered breadth-first: its form, order and verdicts, and that no two of its states are alike.
use mathlib.Core.Logic.{◌↔◌}
use mathlib.Core.List.{List}
use mathlib.Core.Path.{◌≡◌}
use Prim.Native.Nat.{ℕ}
use Rattle.meaning.specs.Traces.{Alphabet, Word}
use Rattle.meaning.specs.Monitors.{Over, follow, shows, BreadthFirst}
use Rattle.meaning.specs.declared.Verdict.{Verdict}
use Rattle.moore.specs.Reduced.{Reduced}
use Rattle.moore.specs.Grouping.{machine, Machine}
use Rattle.moore.specs.Quotient.{reduced, Says}
use Rattle.moore.proofs.Canonical.{reached}
use Rattle.moore.proofs.Grouping.{grouping-grouped, grouping-stable}
use Rattle.moore.proofs.Quotient.{quotient-over, shows-iff, quotient-apart}
use Rattle.moore.proofs.Order.{quotient-breadth-first}

module _ {Σ : Alphabet} {n : ℕ} {rows : List (List ℕ)} {classes : List ℕ} (M : Machine Σ n rows classes) where
  pub reduced-over : Over Σ (reduced Σ n rows classes)
  unfolding reduced
  reduced-over = quotient-over M (grouping-grouped M) (grouping-stable M)

  -- after a word it shows what holds of the state on which the machine then stands
  pub reduced-shows : (w : List ℕ) → Word Σ w → (v : Verdict) → (shows (reduced Σ n rows classes) w ≡ v) ↔ Says Σ n rows classes (follow (machine n rows classes) 0 w) v
  unfolding reduced
  reduced-shows = shows-iff M (grouping-grouped M) (grouping-stable M)

  module _ (b : BreadthFirst Σ (machine n rows classes)) where
    pub reduced-breadth-first : BreadthFirst Σ (reduced Σ n rows classes)
    unfolding reduced
    reduced-breadth-first = quotient-breadth-first M (grouping-grouped M) (grouping-stable M) b

    pub reduced-reduced : Reduced Σ (reduced Σ n rows classes)
    unfolding reduced
    reduced-reduced = record {
      reached = reached Σ (reduced Σ n rows classes) reduced-breadth-first;
      apart = quotient-apart M (grouping-grouped M) (grouping-stable M);
    }
