-- `grouping::reduce` meets its contract.
use Rattle.std.proofs.Common.{ℕ, arith}
use Rattle.std.proofs.lemmas.List.{length-take}
use Rattle.grouping.proofs.Reductions.{least-of, reduced}
use Rattle.grouping.proofs.reduce.Goals as goal

pub invariant_of-grouped : goal.invariant_of-grouped
invariant_of-grouped c = record {
  least = least-of c.args.signals c.args.mask c.width-events.ensures.0 c.from-states.ensures c.requires.machine c.clear_impossible.ensures c.groups-group.result c.groups-group.ensures;
}

pub returns : goal.returns
returns c =
    let count = c.list_leaders-count in
    reduced c.args.signals c.args.mask c.width-events.ensures.0 c.from-states.ensures c.requires.machine c.clear_impossible.ensures c.groups-group.result c.groups-group.ensures count.ensures.listed
    c.numbers-numbers.result c.args.verdicts.now c.store.new.verdicts c.args.to.now c.store.new.to c.numbers-numbers.ensures
    _ (omega (arith, length-take {A = ℕ})) c.store.ensures.verdict c.store.ensures.row
