-- `rule_text::write_signs` meets its contract: how many nodes the signs have, and what is written for them.
use Rattle.std.proofs.Common.{arith, rules, ◌≡◌, ap, sym, ◌∙◌, ℕ, take, length-take}
use Rattle.meaning.specs.RuleTexts.{size}
use Rattle.grammar.specs.Reading.{tree_of}
use Rattle.grammar.proofs.Trees.{signs_of}
use Rattle.text_nodes.proofs.Trees.{size_is}
use Rattle.rule_text.proofs.Answers.{many, kinds-fit, written}
use Rattle.rule_text.proofs.write_signs.Goals as goal

pub returns-then-count-gt64-clause-value : goal.returns-then-count-gt64-clause-value
returns-then-count-gt64-clause-value c =
    many _ _ _ (search rules) (search rules) (omega (arith, size_is c.requires.1, c.count-count.ensures, c.if-count-gt64.true))

pub nodes-nodes-requires : goal.nodes-nodes-requires
nodes-nodes-requires c = (signs_of c.requires.1 (omega arith), omega (arith, size_is c.requires.1, c.count-count.ensures, c.if-count-gt64.false))

pub write_nodes-requires : goal.write_nodes-requires
write_nodes-requires c =
    let count : c.count-count.result ≡ size (tree_of c.args.signs.now) = c.count-count.ensures.0 ∙ sym (size_is c.requires.1) in
    let of_tree = ap (λ (k : ℕ). take k c.nodes-nodes.result) count ∙ c.nodes-nodes.ensures in
    (search rules, simp length-take (omega arith), kinds-fit _ of_tree (signs_of c.requires.1 (omega arith)))

pub returns : goal.returns
returns c =
    let count : c.count-count.result ≡ size (tree_of c.args.signs.now) = c.count-count.ensures.0 ∙ sym (size_is c.requires.1) in
    let of_tree = ap (λ (k : ℕ). take k c.nodes-nodes.result) count ∙ c.nodes-nodes.ensures in
    let w = written _ of_tree _ _ _ _ (search rules) (search rules) (omega (arith, c.if-count-gt64.false)) c.write_nodes.ensures.answer c.write_nodes.ensures.output in
    record { value = w.0; rule_after = w.1 }
