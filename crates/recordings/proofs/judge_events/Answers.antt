-- `recordings::judge_events` meets its contract. The loop's invariant: the checks of the events passed refuse nothing, and the members are the states that
-- their completions reach.
use native.Mathlib.Omega.{arith}
use mathlib.Core.Path.{◌∙◌}
use Rattle.std.proofs.lemmas.Result.{err_from_is_err_and}
use Rattle.recordings.proofs.Laws.{given, passed_none, passed-more, pass-fault, pass-end}
use Rattle.recordings.proofs.judge_events.Goals as goal

pub possible_mask-mask-requires : goal.possible_mask-mask-requires
possible_mask-mask-requires c = let g = given c.args.t.now c.args.signals c.args.states c.args.a.now c.args.b.now c.requires.0 c.requires.1 in
    (g.few, g.first-row)

pub in_table-inside-requires : goal.in_table-inside-requires
in_table-inside-requires c = (given c.args.t.now c.args.signals c.args.states c.args.a.now c.args.b.now c.requires.0 c.requires.1).few

pub loop-i-init : goal.loop-i-init
loop-i-init c = rw (c.in_table-inside.ensures, c.start-members.ensures) (passed_none c.args.t.now c.args.signals c.args.states c.args.a.now c.args.b.now)

pub hear-requires : goal.hear-requires
hear-requires c = let g = given c.args.t.now c.args.signals c.args.states c.args.a.now c.args.b.now c.requires.0 c.requires.1 in
    record { signals_bound = (g.few, g.states, c.possible_mask-mask.ensures); i_in_bounds = (omega arith, omega (arith, g.even)) }

pub returns-in_err-stays : goal.returns-in_err-stays
returns-in_err-stays c = let p = err_from_is_err_and c.from_residual.result c.from_residual.ensures.1 in
    rw (p.1, p.2) (pass-fault c.args.t.now c.args.signals c.args.states c.args.a.now c.args.b.now c.loop-i.i c.loop-i.inside c.loop-i.members _ c.loop-i.invariant c.loop-i-test.true c.in_err-stays.ensures)

pub loop-i-preserved : goal.loop-i-preserved
loop-i-preserved c = passed-more c.args.t.now c.args.signals c.args.states c.args.a.now c.args.b.now c.loop-i.i c.loop-i.inside _ c.loop-i.members _ c.loop-i.invariant c.in_ok-stays.ensures

pub conclude-requires : goal.conclude-requires
conclude-requires c = let g = given c.args.t.now c.args.signals c.args.states c.args.a.now c.args.b.now c.requires.0 c.requires.1 in (g.few, g.states)

pub returns : goal.returns
returns c = c.conclude.ensures ∙ pass-end c.args.t.now c.args.signals c.args.states c.args.a.now c.args.b.now _ c.loop-i.inside c.loop-i.members c.loop-i.invariant (omega arith)
