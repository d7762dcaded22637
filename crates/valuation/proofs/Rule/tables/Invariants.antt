-- `valuation::Rule::tables` meets its contract. The loop's invariant: the rows below e are those of the events passed.
use mathlib.Core.Path.{◌≡◌}
use lib.ListN.{length}
use Rattle.valuation.specs.Entries.{Table}
use Rattle.valuation.specs.Valued.{profile_at, fairs_at}
use Rattle.valuation.proofs.Rule.tables.Given as goal

abbrev pub invariant-loop-e : goal.invariant-loop-e
invariant-loop-e l = record {
  profiles_long : length l.profiles ≡ 16;
  fairs_long : length l.fairs ≡ 16;
  profiles : Table l.e l.labels (profile_at l.self.nodes.now) l.profiles;
  fairs : Table l.e l.labels (fairs_at l.self.nodes.now) l.fairs;
}
