-- `refinement::refined` meets its contract.
use Rattle.std.proofs.Common.{◌≡◌, ◌-◌, take}
use Rattle.moore.specs.Grouping.{rounds}
use Rattle.group_slots.specs.Groups.{unmasked, Least}
use Rattle.refinement.proofs.refined.Given as goal

abbrev pub invariant-loop-done : goal.invariant-loop-done
invariant-loop-done l =
    let s = l.successors in
    let of = rounds (s.states - l.done) (unmasked s.events) s.states s.rows.now (take s.states l.group) in record {
      least : Least s.states l.group;
      same : of ≡ rounds s.states (unmasked s.events) s.states s.rows.now (take s.states l.initial.group);
    }
