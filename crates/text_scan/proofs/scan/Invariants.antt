-- `text_scan::scan` meets its contract.
use Prim.Native.Nat.{◌≤◌}
use lib.ListN.{take}
use Rattle.text_scan.specs.Modes.{Scanning}
use Rattle.text_scan.proofs.scan.Given as goal

abbrev pub invariant-loop-i : goal.invariant-loop-i
invariant-loop-i l =
    (l.count ≤ l.i) × (l.deep ≤ l.i) × Scanning l.text l.i l.mode l.deep (take l.count l.signs)
