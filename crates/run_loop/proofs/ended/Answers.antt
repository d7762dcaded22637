-- `run_loop::ended` meets its contract.
use Rattle.std.proofs.Common.{sym, ◌∙◌, arith}
use Rattle.run_loop.proofs.Laws.{going-ends, going_more, going-off, going_end}
use Rattle.run_loop.proofs.ended.Goals as goal

pub returns-then-not-in_table : goal.returns-then-not-in_table
returns-then-not-in_table c = let off = sym c.in_table.ensures ∙ c.if-not-in_table.true in
    sym (going-off _ _ _ c.args.events.now c.loop-i.first c.loop-i.s c.loop-i.i off) ∙ c.loop-i.invariant
    ∙ going-ends c.args.t.now c.args.signals c.args.states c.args.state c.args.events.now

pub loop-i-preserved : goal.loop-i-preserved
loop-i-preserved c = let stands = sym c.in_table.ensures ∙ c.if-not-in_table.false in
    let count = rw c.decides_at.ensures at c.noted-first.ensures in
    going_more _ _ _ c.args.events.now c.loop-i.first _ c.loop-i.s c.loop-i.i _ (omega arith) stands count c.successor_in-s.ensures ∙ c.loop-i.invariant

pub returns-then-in_table : goal.returns-then-in_table
returns-then-in_table c = let stands = sym c.in_table-2.ensures ∙ c.if-in_table.true in
    let count = rw c.decides_at-then-in_table.ensures at c.noted.ensures in
    sym (going_end _ _ _ c.args.events.now c.loop-i.first _ _ c.loop-i.s c.loop-i.i (omega arith) stands c.verdict_at.ensures count) ∙ c.loop-i.invariant
    ∙ going-ends c.args.t.now c.args.signals c.args.states c.args.state c.args.events.now

pub returns-else-in_table : goal.returns-else-in_table
returns-else-in_table c = let off = sym c.in_table-2.ensures ∙ c.if-in_table.false in
    sym (going-off _ _ _ c.args.events.now c.loop-i.first c.loop-i.s c.loop-i.i off) ∙ c.loop-i.invariant
    ∙ going-ends c.args.t.now c.args.signals c.args.states c.args.state c.args.events.now
