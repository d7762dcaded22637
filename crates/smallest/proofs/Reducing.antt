-- The table of the smallest monitor of a machine of at most 256 states fits a table file, and is that monitor.
use mathlib.Core.Path.{refl, sym, subst}
use mathlib.Core.Bool.{Bool, true, false}
use mathlib.Core.List.{List}
use Prim.Native.Nat.{ℕ, zero, suc, ◌≤◌, ◌<◌}
use native.Mathlib.Omega.{arith}
use lib.ListN.{get_or}
use lib.Dec.{eqb-suc-zero}
use Rattle.sequences.proofs.Loops.{get_d-tab}
use Rattle.sequences.proofs.Pointwise.{is_true}
use Rattle.meaning.specs.Traces.{Alphabet}
use Rattle.meaning.specs.Monitors.{Over}
use Rattle.meaning.specs.TableFiles.{monitor_of}
use Rattle.moore.specs.Reduced.{SameRows}
use Rattle.moore.specs.Grouping.{Machine, leads, grouping}
use Rattle.moore.specs.Quotient.{leaders, leader, size, closed, verdict_byte, verdicts, quotient_rows, quotient, reduced}
use Rattle.moore.proofs.Counting.{count-le}
use Rattle.moore.proofs.Grouping.{grouping-grouped, grouping-stable}
use Rattle.moore.proofs.Quotient.{leader-in, quotient-over}
use Rattle.table_bytes.proofs.RoundTrip.{Fitting}
use Rattle.smallest.specs.Table.{most_states, reduced_bytes}
use Rattle.smallest.proofs.Tables.{OfSignals, Written, written-rows}

byte_low : (c : ℕ) (b : Bool) → c ≤ 2 → verdict_byte c b ≤ 3
byte_low zero true l = omega arith
byte_low zero false l = omega arith
byte_low (suc c) b l = rw (eqb-suc-zero c) (omega arith)

module _ {Σ : Alphabet} {P : ℕ} (p : OfSignals Σ P) {n : ℕ} {rows : List (List ℕ)} {classes : List ℕ} (M : Machine Σ n rows classes) (few : n ≤ most_states) where
  over : Over Σ (quotient Σ n rows classes (grouping Σ n rows classes))
  over = quotient-over M (grouping-grouped M) (grouping-stable M)

  verdict-low : (s : ℕ) → s < size n (grouping Σ n rows classes) → get_or (verdicts Σ n rows classes (grouping Σ n rows classes)) s 0 ≤ 3
  unfolding verdicts leader
  verdict-low s l =
      let g : List ℕ = grouping Σ n rows classes in
      let i : ℕ = leader n g s in
      subst (λ (b : ℕ). b ≤ 3)
      (sym (get_d-tab (size n g) (λ q. verdict_byte (get_or classes (get_or (leaders n g) q 0) 0) (closed Σ rows g (get_or (leaders n g) q 0))) s 0 l))
      (byte_low (get_or classes i 0) (closed Σ rows g i) (M.class i (leader-in M (grouping-grouped M) (grouping-stable M) s l)))

  fits : Fitting Σ P (size n (grouping Σ n rows classes)) (verdicts Σ n rows classes (grouping Σ n rows classes)) (quotient_rows Σ n rows (grouping Σ n rows classes))
  unfolding size
  fits = record {
    signals_low = p.signals.low;
    signals_high = p.signals.high;
    states-low = over.start_in;
    states-high = omega (arith, count-le n (leads (grouping Σ n rows classes)));
    verdict = verdict-low;
    next = λ s e l m q. over.next_in s e l (rw p.width m, rw q tt);
    event = p.live.event;
    event-low = subst (λ (n : ℕ). p.live.event < n) p.width p.live.possible.0;
    event-possible = is_true (Σ.possible p.live.event) p.live.possible.1;
  }

  pub reduced-written : Written Σ P (reduced_bytes Σ P n rows classes)
  unfolding reduced_bytes
  reduced-written = record {
    states = size n (grouping Σ n rows classes);
    verdicts = verdicts Σ n rows classes (grouping Σ n rows classes);
    rows = quotient_rows Σ n rows (grouping Σ n rows classes);
    fits = fits;
    is = refl;
  }

  pub reduced-rows : SameRows Σ (reduced Σ n rows classes) (monitor_of (reduced_bytes Σ P n rows classes))
  unfolding reduced reduced-written
  reduced-rows = written-rows reduced-written p
