-- `spread_word` meets its contract.
use native.Mathlib.Omega.{arith}
use mathlib.Core.Path.{ap}
use Prim.Native.Nat.{ℕ, ◌%◌}
use lib.Dec.{eqb}
use Rattle.profile_sets.proofs.Spreads.{left-more, spread-more}
use Rattle.profile_sets.proofs.spread_word.Goals as goal

pub loop-i-preserved : goal.loop-i-preserved
loop-i-preserved c = (left-more c.args.word c.loop-i.i c.loop-i.rest c.loop-i.invariant.0, spread-more _ c.loop-i.invariant.1 (omega arith) (ap (λ (r : ℕ). eqb (r % 2) 1) c.loop-i.invariant.0))
