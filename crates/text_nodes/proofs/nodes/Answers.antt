-- `text_nodes::nodes` meets its contract.
use native.Mathlib.Omega.{arith}
use Rattle.text_nodes.proofs.Trees.{listed, listed-taken}
use Rattle.text_nodes.proofs.nodes.Goals as goal

pub nodes_in-requires : goal.nodes_in-requires
nodes_in-requires c =
    let l = listed c.level-end.ensures c.requires.0 c.requires.1 (omega arith) in
    (omega (arith, l.count, c.requires.1), omega (arith, l.count, c.requires.1, c.level-end.auto))

pub returns : goal.returns
returns c =
    let l = listed c.level-end.ensures c.requires.0 c.requires.1 (omega arith) in
    listed-taken c.nodes_in.result l c.nodes_in.ensures
