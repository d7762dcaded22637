-- `text_input::put_values` meets its contract.
use Rattle.std.proofs.Common.{◌≡◌, ◌++◌, map, take, drop}
use Rattle.text_input.specs.EventDigits.{put_value}
use Rattle.text_input.proofs.put_values.Given as goal

abbrev pub invariant-loop-b : goal.invariant-loop-b
invariant-loop-b l = l.bytes ≡ map put_value (take l.b-index l.initial.bytes) ++ drop l.b-index l.initial.bytes
