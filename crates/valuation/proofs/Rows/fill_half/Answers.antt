-- `valuation::Rows::fill_half` meets its contract. The loop's invariant: the entries below y are the bytes of the columns.
use native.Mathlib.Omega.{arith}
use Rattle.valuation.proofs.Prefixes.{fills-none, fills-more, fills-to, profile-size, fairs-size}
use Rattle.valuation.specs.Valued.{profile_at, fairs_at}
use Rattle.valuation.proofs.Rows.fill_half.Goals as goal

pub loop-y-init : goal.loop-y-init
loop-y-init c = record { profiles = fills-none (omega arith); fairs = fills-none (omega arith) }

pub loop-y-preserved : goal.loop-y-preserved
loop-y-preserved c = record {
  profiles = fills-more c.loop-y.invariant.profiles c.byte_at.ensures c.first_of-from.ensures (omega arith) (omega arith) (omega arith);
  fairs = fills-more c.loop-y.invariant.fairs c.byte_at-in-loop-y.ensures c.first_of-from.ensures (omega arith) (omega arith) (omega arith);
}

pub returns-clause-profiles_to : goal.returns-clause-profiles_to
returns-clause-profiles_to c =
    fills-to c.loop-y.invariant.profiles (profile_at c.args.rule.now.nodes.now c.args.event) (profile-size c.args.rule.now.valuable c.args.event) c.columns-columns.ensures.profiles
    c.first_of-from.ensures c.requires.profiles (omega arith)

pub returns-clause-fairs_to : goal.returns-clause-fairs_to
returns-clause-fairs_to c =
    fills-to c.loop-y.invariant.fairs (fairs_at c.args.rule.now.nodes.now c.args.event) (fairs-size c.args.rule.now.valuable c.args.event) c.columns-columns.ensures.fairs
    c.first_of-from.ensures c.requires.fairs (omega arith)
