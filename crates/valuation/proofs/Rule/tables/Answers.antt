-- `valuation::Rule::tables` meets its contract. The loop's invariant: the rows below e are those of the events passed.
use native.Mathlib.Omega.{arith}
use lib.ListN.{length-set}
use Rattle.valuation.proofs.Entries.{table_more}
use Rattle.valuation.proofs.Rule.tables.Goals as goal

pub loop-e-preserved : goal.loop-e-preserved
loop-e-preserved c = record {
  profiles_long = simp length-set c.loop-e.invariant.profiles_long;
  fairs_long = simp length-set c.loop-e.invariant.fairs_long;
  profiles = table_more c.loop-e.invariant.profiles c.rows.ensures.profiles (omega arith);
  fairs = table_more c.loop-e.invariant.fairs c.rows.ensures.fairs (omega arith);
}
