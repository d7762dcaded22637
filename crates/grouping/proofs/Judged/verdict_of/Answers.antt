-- `Judged::verdict_of` meets its contract.
use Rattle.std.proofs.Common.{◌≡◌, ℕ, true, false, get_or, sym, ap, ◌∙◌}
use Rattle.meaning.specs.Traces.{masked}
use Rattle.grouping.proofs.Laws.{verdict-of-class, verdict-of-none}
use Rattle.grouping.proofs.Judged.verdict_of.Goals as goal

pub returns-then-class-ne0 : goal.returns-then-class-ne0
returns-then-class-ne0 c =
    let j = c.args.self.now in
    let s = j.grouped.now.successors in
    let class : get_or j.classes.now c.from.result 0 ≡ get_or j.classes.now c.args.s 0 = ap (λ (x : ℕ). get_or j.classes.now x 0) c.from.ensures in
    class ∙ verdict-of-class (masked s.events j.mask) s.rows.now j.classes.now j.grouped.now.group.now c.args.s (λ e. c.if-class-ne0.true (class ∙ e))

pub returns-then-is_closed : goal.returns-then-is_closed
returns-then-is_closed c =
    let j = c.args.self.now in
    let s = j.grouped.now.successors in
    let class = ap (λ (x : ℕ). get_or j.classes.now x 0) (sym c.from.ensures) ∙ c.if-class-ne0.false in
    verdict-of-none (masked s.events j.mask) s.rows.now j.classes.now j.grouped.now.group.now c.args.s true class (sym c.if-is_closed.true ∙ c.is_closed.ensures)

pub returns-else-is_closed : goal.returns-else-is_closed
returns-else-is_closed c =
    let j = c.args.self.now in
    let s = j.grouped.now.successors in
    let class = ap (λ (x : ℕ). get_or j.classes.now x 0) (sym c.from.ensures) ∙ c.if-class-ne0.false in
    verdict-of-none (masked s.events j.mask) s.rows.now j.classes.now j.grouped.now.group.now c.args.s false class (sym c.if-is_closed.false ∙ c.is_closed.ensures)
