-- `group_slots::least_same` meets its contract.
use Rattle.std.proofs.Common.{◌≡◌, ℕ, ◌+◌, Bool, true, false, rules, tests, get_or, ap, ◌∙◌, arith}
use Rattle.std.proofs.lemmas.Iterator.{first_from_Range}
use Rattle.moore.specs.Grouping.{same_step}
use Rattle.group_slots.specs.Groups.{unmasked}
use Rattle.group_slots.proofs.Comparing.{missed-before}
use Rattle.group_slots.proofs.Ranges.{least_range}
use Rattle.group_slots.proofs.least_same.Goals as goal

pub returns : goal.returns
returns c =
    let rows = c.args.rows.now in
    let group = c.args.group.now in
    let same : ℕ → Bool = λ k. same_step (unmasked c.args.events) rows group k c.args.i in
    let least = c.requires.least.least c.args.i (omega arith) in
    let start : get_or group c.from.result 0 ≡ get_or group c.args.i 0 = ap (λ (x : ℕ). get_or group x 0) c.from.ensures in
    c.unwrap_or.ensures
    ∙ least_range _ c.args.i same c.find.result (omega arith) (missed-before (unmasked c.args.events) rows group (c.args.i + 1) c.args.i _ c.requires.least (omega arith) start)
    (first_from_Range _ _ _ c.find.result (λ k. same k ≡ true) (λ k. same k ≡ false) c.find.ensures.ran (λ x q k. search (rules, tests)) (λ x q k. search (rules, tests)))
