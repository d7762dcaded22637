-- `valuation::Rule::columns` meets its contract. The loop's invariant: the columns hold the nodes passed, valued at each label.
use native.Mathlib.Omega.{arith}
use borrow.Author.Rules.{rules}
use mathlib.Core.Path.{refl}
use Rattle.valuation.proofs.Held.{held_none}
use Rattle.valuation.proofs.Prefixes.{prefix-none, prefix-room, prefix-more, prefix-to, whole-temporals, whole-room, whole-profiles}
use Rattle.valuation.proofs.Rule.columns.Goals as goal

pub loop-i-init : goal.loop-i-init
loop-i-init c = prefix-none _ refl (held_none _ refl refl refl refl)

pub add-requires : goal.add-requires
add-requires c = (omega arith, prefix-room c.loop-i.invariant _ (omega arith) c.args.self.now.valuable.temporal)

pub loop-i-preserved : goal.loop-i-preserved
loop-i-preserved c = prefix-more c.loop-i.invariant _ (omega arith) c.add.ensures

pub offset_bounds-columns-from : goal.offset_bounds-columns-from
offset_bounds-columns-from c = let few = whole-room (prefix-to c.loop-i.invariant (omega arith)) c.args.self.now.valuable c.from.ensures in search rules

pub bounds-columns-from : goal.bounds-columns-from
bounds-columns-from c = whole-room (prefix-to c.loop-i.invariant (omega arith)) c.args.self.now.valuable c.from.ensures

pub returns-clause-temporals_value : goal.returns-clause-temporals_value
returns-clause-temporals_value c = whole-temporals (prefix-to c.loop-i.invariant (omega arith))

pub returns-clause-profiles : goal.returns-clause-profiles
returns-clause-profiles c = whole-profiles (prefix-to c.loop-i.invariant (omega arith)) c.args.self.now.valuable c.from.ensures refl

pub returns-clause-fairs : goal.returns-clause-fairs
returns-clause-fairs c = (prefix-to c.loop-i.invariant (omega arith)).held.of_fairs
