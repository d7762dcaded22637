-- `recordings::hear_joined` meets its contract.
use mathlib.Core.Path.{refl}
use Prim.Native.Nat.{◌≤◌}
use native.Mathlib.Omega.{arith}
use borrow.Author.Rules.{rules}
use Rattle.recordings.proofs.Laws.{joined-refused, joined-some, joined-heard}
use Rattle.recordings.proofs.hear_joined.Goals as goal

pub returns-then-choices-lt1 : goal.returns-then-choices-lt1
returns-then-choices-lt1 c = (joined-refused c.args.t.now c.args.signals c.args.states c.args.seen c.args.mask c.choices_of-choices.result.count c.choices_of-choices.result.events (search rules) c.choices_of-choices.ensures.1 c.choices_of-choices.ensures.0 c.choices_of-choices.ensures.2 (omega arith), refl)

pub returns : goal.returns
returns c = let some : 1 ≤ c.choices_of-choices.result.count = omega arith in (
  joined-some c.args.t.now c.args.signals c.args.states c.args.seen c.args.mask c.choices_of-choices.result.count c.choices_of-choices.result.events c.requires.signals_bound.2 c.choices_of-choices.ensures.1 c.choices_of-choices.ensures.0 c.choices_of-choices.ensures.2 some,
  joined-heard c.args.t.now c.args.signals c.args.states c.args.seen c.args.mask c.choices_of-choices.result.count c.choices_of-choices.result.events c.requires.signals_bound.2 c.choices_of-choices.ensures.1 c.choices_of-choices.ensures.0 c.choices_of-choices.ensures.2 _ _ _ some c.advance.ensures,
)
