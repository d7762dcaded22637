-- `text_input::value` meets its contract.
use Rattle.std.proofs.Common.{◌≡◌, ◌<◌, ◌^◌, drop}
use Rattle.text_input.specs.Given.{value_of, value_after}
use Rattle.text_input.proofs.value.Given as goal

abbrev pub invariant-loop-b : goal.invariant-loop-b
invariant-loop-b l = (l.n < 10 ^ l.b-index) × (value_after l.n (drop l.b-index l.digits) ≡ value_of l.digits)
