-- `refinement::least_of_class` meets its contract.
use Rattle.std.proofs.Common.{◌≡◌, ℕ, Bool, true, false, rules, tests, ◌∙◌, arith}
use Rattle.std.proofs.lemmas.Iterator.{first_from_Range}
use Rattle.sequences.proofs.Loops.{missed-none}
use Rattle.moore.specs.Grouping.{together}
use Rattle.group_slots.proofs.Ranges.{least_range}
use Rattle.refinement.proofs.least_of_class.Goals as goal

pub returns : goal.returns
returns c =
    let same : ℕ → Bool = λ k. together c.args.classes.now k c.args.i in
    c.unwrap_or.ensures
    ∙ least_range 0 c.args.i same c.find.result (omega arith) missed-none
    (first_from_Range _ _ _ c.find.result (λ k. same k ≡ true) (λ k. same k ≡ false) c.find.ensures.ran (λ x q k. search (rules, tests)) (λ x q k. search (rules, tests)))
