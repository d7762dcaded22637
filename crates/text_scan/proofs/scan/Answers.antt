-- `text_scan::scan` meets its contract.
use native.Mathlib.Omega.{arith}
use Rattle.text_scan.proofs.Laws.{scanning-stored, scanning_kept}
use Rattle.text_scan.proofs.scan.Goals as goal
use Rattle.text_scan.proofs.scan.Goals.{in-Some-sign, in_default-sign}

pub loop-i-preserved : goal.loop-i-preserved
loop-i-preserved c = elim c.match-sign.branch [
  | in-Some-sign w ↦
      let p = scanning-stored _ _ c.in-Some.field-0 _ c.loop-i.invariant.2 c.loop-i-test.true c.in-Some.ensures.0 w.in-Some-sign.is (omega arith) in
      (omega arith, omega (arith, c.in-Some.ensures.1), rw (w.mode-is, w.deep-is, w.signs-is, w.count-is) p)
  | in_default-sign w ↦
      let p = scanning_kept c.loop-i.invariant.2 c.loop-i-test.true c.in-Some.field-0 c.in-Some.ensures.0 w.in_default-sign.is in
      (omega arith, omega (arith, c.in-Some.ensures.1), rw (w.mode-is, w.deep-is, w.signs-is, w.count-is) p)
]
