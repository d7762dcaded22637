-- `table_run::step_in` meets its contract.
use Rattle.std.proofs.Common.{sym, ◌∙◌, ◌<◌, ◌^◌, arith}
use Rattle.table_run.proofs.Laws.{granted, possible, step-ended, step-off, step-away}
use Rattle.table_run.proofs.step_in.Goals as goal
use Rattle.table_run.proofs.step_in.Goals.{else-in_table-via-then-in_table+else-in_table-2, else-in_table-via-else-in_table}

pub returns-then-in_table-2 : goal.returns-then-in_table-2
returns-then-in_table-2 c = let start = granted c.args.t.now c.args.signals c.args.states c.args.state c.admit.ensures c.in_ok-admit.was in
    let f = c.if-width-from.false in let g = c.if-successor_at.false in
    let below : c.args.event < 2 ^ c.args.signals = omega arith in
    let event = possible c.args.t.now c.args.signals c.args.event below (λ q. omega (arith, q, c.if-successor_at.false, c.successor_at.ensures)) in
    let here = sym c.in_table.ensures ∙ c.if-in_table.true in
    let there = sym c.in_table-then-in_table.ensures ∙ c.if-in_table-2.true in
    step-ended _ _ _ _ _ start event c.successor_at-to.result c.successor_at-to.ensures _ _ here there c.verdict_at.ensures c.first_shown.ensures

pub returns-else-in_table : goal.returns-else-in_table
returns-else-in_table c = let start = granted c.args.t.now c.args.signals c.args.states c.args.state c.admit.ensures c.in_ok-admit.was in
    let below : c.args.event < 2 ^ c.args.signals = omega arith in
    let event = possible c.args.t.now c.args.signals c.args.event below (λ q. omega (arith, q, c.if-successor_at.false, c.successor_at.ensures)) in
    elim c.else-in_table.branch [
      | else-in_table-via-then-in_table+else-in_table-2 w ↦ step-away _ _ _ _ _ start event c.successor_at-to.result c.successor_at-to.ensures (sym c.in_table.ensures ∙ w.if-in_table.true)
          (sym w.in_table-then-in_table.ensures ∙ w.if-in_table-2.false)
      | else-in_table-via-else-in_table w ↦ step-off _ _ _ _ _ start event c.successor_at-to.result c.successor_at-to.ensures (sym c.in_table.ensures ∙ w.if-in_table.false)
    ]
