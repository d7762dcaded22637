-- `realizability::all_of` meets its contract. The loop's invariant: all temporal nodes passed are in the set.
use mathlib.Core.Path.{ap, sym, ◌∙◌}
use Prim.Native.Nat.{ℕ}
use Rattle.relations.proofs.Searches.{not-all}
use Rattle.ltl.specs.Sets.{on}
use Rattle.realizability.proofs.all_of.Goals as goal

pub returns-then-not-holds : goal.returns-then-not-holds
returns-then-not-holds c = not-all c.args.m (λ j. on c.args.set j) c.loop-j.j c.loop-j-test.true (ap (λ (s : ℕ). on s c.loop-j.j) (sym c.from.ensures) ∙ sym c.holds.ensures ∙ c.if-not-holds.true)
