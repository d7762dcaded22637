-- `event_lists::all_in` meets its contract.
use native.Mathlib.Omega.{arith}
use mathlib.Core.Path.{◌≡◌}
use mathlib.Core.Bool.{true}
use Rattle.std.proofs.lemmas.Bool.{lt-ltb}
use Rattle.event_lists.specs.Masks.{all_in}
use Rattle.event_lists.proofs.Laws.{above_in}
use Rattle.event_lists.proofs.all_in.Goals as goal

pub returns-then-from-full_below : goal.returns-then-from-full_below
returns-then-from-full_below c = let all : all_in c.args.mask c.args.events.now ≡ true = above_in c.args.mask c.full_below.result c.most.ensures c.full_below.ensures (omega arith) in
    rw all (lt-ltb _ _ c.if-from-full_below.true)
