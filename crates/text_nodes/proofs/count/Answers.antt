-- `text_nodes::count` meets its contract.
use mathlib.Core.Path.{◌≡◌, sym, ◌∙◌}
use native.Mathlib.Omega.{arith}
use borrow.Author.Rules.{rules}
use Rattle.std.specs.Prelude.{count_by}
use Rattle.std.proofs.lemmas.List.Sums.{count_by-le-length}
use Rattle.text_nodes.proofs.Laws.{makes_node, occurrences-counted}
use Rattle.text_nodes.proofs.count.Goals as goal

pub returns : goal.returns
returns c =
    let e : c.count.result ≡ count_by makes_node c.args.signs.now = search rules in
    (e ∙ sym (occurrences-counted c.args.signs.now), omega (arith, e, count_by-le-length makes_node c.args.signs.now))
