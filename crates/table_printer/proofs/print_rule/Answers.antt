-- `table_printer::print_rule` meets its contract.
use native.Mathlib.Omega.{arith}
use mathlib.Core.Path.{refl, sym, ◌∙◌}
use mathlib.Core.List.{List}
use Prim.Native.Nat.{ℕ, ◌≤◌}
use lib.ListN.{length, take, replicate, length-replicate}
use Rattle.table_printer.proofs.Texts.{tabled, refused-text, table-answer, table-after, line-answer, line-after}
use Rattle.table_printer.proofs.print_rule.Goals as goal

pub slice_bounds-table-end : goal.slice_bounds-table-end
slice_bounds-table-end c =
    (tabled c.args.rule.now _ c.build.new.table _ c.in-Ok.n c.in-Ok.ensures.answer c.in-Ok.ensures.output c.in-Ok.ensures.demands refl).inside

pub returns-in-Ok : goal.returns-in-Ok
returns-in-Ok c =
    let h = tabled c.args.rule.now _ c.build.new.table _ c.in-Ok.n c.in-Ok.ensures.answer c.in-Ok.ensures.output c.in-Ok.ensures.demands refl in
    record {
      answer = c.table_text.ensures.value ∙ table-answer c.args.rule.now c.args.text.now (take c.in-Ok.n c.build.new.table) h.form h.text;
      output = c.table_text.ensures.out_after ∙ table-after c.args.rule.now c.args.text.now (take c.in-Ok.n c.build.new.table) h.form h.text;
    }

pub returns-in-Err : goal.returns-in-Err
returns-in-Err c =
    let e = refused-text c.args.rule.now (replicate 9479 0) (omega (arith, length-replicate {A = ℕ} 9479 0)) c.in-Err.why (sym c.in-Err.ensures.answer) in
    let long : 32768 ≤ length c.args.text.now = omega arith in
    record {
      answer = c.refusal_text.ensures.value ∙ line-answer c.args.rule.now c.args.text.now c.in-Err.why long e;
      output = c.refusal_text.ensures.out_after ∙ line-after c.args.rule.now c.args.text.now c.in-Err.why long e;
    }
