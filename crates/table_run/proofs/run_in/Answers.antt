-- `table_run::run_in`: a run that starts ends as the definition says, or is refused at the first event outside the mask.
use Rattle.table_run.proofs.Laws.{granted, run_small, run_ends, run-outside}
use Rattle.table_run.proofs.run_in.Goals as goal

pub returns-in-Some : goal.returns-in-Some
returns-in-Some c = let start = granted c.args.t.now c.args.signals c.args.states c.args.state c.admit.ensures c.in_ok-admit.was in
    run-outside _ _ _ _ _ start c.possible_mask-mask.ensures _ c.in-Some.ensures

pub ended_by_rows-requires-clause-signals_bound : goal.ended_by_rows-requires-clause-signals_bound
ended_by_rows-requires-clause-signals_bound c = let start = granted c.args.t.now c.args.signals c.args.states c.args.state c.admit.ensures c.in_ok-admit.was in
    (start.few, run_small _ _ _ _ _ start c.possible_mask-mask.ensures c.in_default.ensures)

pub ended-requires-clause-signals_bound : goal.ended-requires-clause-signals_bound
ended-requires-clause-signals_bound c = let start = granted c.args.t.now c.args.signals c.args.states c.args.state c.admit.ensures c.in_ok-admit.was in
    (start.few, run_small _ _ _ _ _ start c.possible_mask-mask.ensures c.in_default.ensures)

pub returns-then-events-ge4096 : goal.returns-then-events-ge4096
returns-then-events-ge4096 c = let start = granted c.args.t.now c.args.signals c.args.states c.args.state c.admit.ensures c.in_ok-admit.was in
    run_ends _ _ _ _ _ start c.possible_mask-mask.ensures _ c.ended_by_rows.ensures c.in_default.ensures

pub returns-else-events-ge4096 : goal.returns-else-events-ge4096
returns-else-events-ge4096 c = let start = granted c.args.t.now c.args.signals c.args.states c.args.state c.admit.ensures c.in_ok-admit.was in
    run_ends _ _ _ _ _ start c.possible_mask-mask.ensures _ c.ended.ensures c.in_default.ensures
