-- `Judged::is_closed` meets its contract.
use Rattle.std.proofs.Common.{◌≡◌, ℕ, Bool, true, cond, eqb, rules, tests, refl, ◌∙◌, arith}
use Rattle.std.proofs.lemmas.Iterator.{YieldsList-from_range}
use Rattle.std.proofs.lemmas.Iterator.Search.{all_from_yields_List}
use Rattle.std.specs.List.{list_all, range_with_len}
use Rattle.meaning.specs.Bytes.{bit}
use Rattle.moore.specs.Grouping.{entry, together}
use Rattle.moore.specs.Quotient.{closed}
use Rattle.group_slots.proofs.Ranges.{all_range}
use Rattle.grouping.proofs.Judged.is_closed.Goals as goal

pub returns : goal.returns
unfolding closed
returns c =
    let j = c.args.self.now in
    let s = j.grouped.now.successors in
    let group = j.grouped.now.group.now in
    let stays : ℕ → Bool = λ e. cond (eqb (bit e j.mask) 1) (together group (entry s.rows.now c.args.s e) c.args.s) true in
    let met : c.all.result ≡ list_all stays (range_with_len 0 s.events) =
    all_from_yields_List stays _ _ _ c.all.ensures.ran (YieldsList-from_range 0 s.events s.events refl (omega arith)) (λ x b q k. search (rules, tests)) in
    met ∙ all_range s.events stays
