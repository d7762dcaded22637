-- `valuation::Rows::fill_half` meets its contract. The loop's invariant: the entries below y are the bytes of the columns.
use Rattle.valuation.proofs.Prefixes.{Fills}
use Rattle.valuation.proofs.Rows.fill_half.Given as goal

abbrev pub invariant-loop-y : goal.invariant-loop-y
invariant-loop-y l = record {
  profiles : Fills l.high l.from l.y l.columns.label l.initial.self.profiles l.self.profiles;
  fairs : Fills l.high l.from l.y l.columns.fairs l.initial.self.fairs l.self.fairs;
}
