-- `rule_writer::any_out_of_range` meets its contract: what std says of `any` is the spec's recursion.
use Rattle.std.proofs.Common.{◌∙◌, not, rules}
use Rattle.std.proofs.lemmas.Iterator.{YieldsList-from_slice}
use Rattle.std.proofs.lemmas.Iterator.Search.{any_from_yields_List}
use Rattle.meaning.specs.RuleFiles.{ranges_fit}
use Rattle.rule_writer.proofs.Laws.{range-any}
use Rattle.rule_writer.proofs.any_out_of_range.Goals as goal

pub returns : goal.returns
returns c =
    any_from_yields_List (λ n. not (ranges_fit c.args.signals n)) _ _ _ c.any.ensures.ran (YieldsList-from_slice c.args.nodes.now cc) (λ x b q k. search rules)
    ∙ range-any c.args.signals c.args.nodes.now
