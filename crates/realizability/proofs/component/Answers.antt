-- `realizability::component` meets its contract. The loop's invariant: no label passed is in the component of c.
use native.Mathlib.Omega.{arith}
use mathlib.Core.Path.{sym, ◌∙◌}
use Rattle.sequences.proofs.Loops.{missed-found, missed-end}
use Rattle.realizability.proofs.Alone.{component-alone}
use Rattle.realizability.proofs.component.Goals as goal

pub returns-then-is_empty : goal.returns-then-is_empty
returns-then-is_empty c = component-alone c.is_empty.ensures c.if-is_empty.true (omega arith)

pub returns-then-both_ways : goal.returns-then-both_ways
returns-then-both_ways c = sym (missed-found c.loop-x.invariant c.args.c c.loop-x-test.true (sym c.both_ways.ensures ∙ c.if-both_ways.true))

pub returns : goal.returns
returns c = sym (missed-end c.loop-x.invariant c.args.c (omega arith))
