-- `table_text::table_text` meets its contract.
use native.Mathlib.Omega.{arith}
use Prim.Native.Nat.{◌≤◌}
use lib.ListN.{length}
use Rattle.table_text.proofs.Tables.{counted}
use Rattle.table_text.proofs.Answers.{text-answer, text-after}
use Rattle.table_text.proofs.table_text.Goals as goal

pub put_lines-requires : goal.put_lines-requires
put_lines-requires c =
    let h = counted c.args.table.now c.in_ok-counts.counts c.in_ok-counts.ensures in
    (h.few, omega (arith, h.small, c.put_counts-next.ensures.upper_bound))

pub returns : goal.returns
returns c =
    let h = counted c.args.table.now c.in_ok-counts.counts c.in_ok-counts.ensures in
    let k : c.put_lines.result ≤ length c.args.out.now = omega (arith, h.small, c.put_counts-next.ensures.upper_bound) in
    record {
      value = text-answer h c.put_counts-next.ensures.put c.put_lines.ensures.put c.if-out-lt32768.false;
      out_after = text-after h c.put_counts-next.ensures.put c.put_lines.ensures.put c.if-out-lt32768.false k;
    }
