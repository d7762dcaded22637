-- `text_input::put_values` meets its contract.
use Rattle.std.proofs.Common.{◌≡◌, get_or, arith, rules}
use Rattle.std.proofs.lemmas.Grind.{common_steps}
use Rattle.std.proofs.lemmas.List.Edits.{map_over_more}
use Rattle.text_input.specs.EventDigits.{put_value}
use Rattle.text_input.proofs.put_values.Goals as goal

pub loop-b-preserved : goal.loop-b-preserved
loop-b-preserved c =
    let e : c.unwrap_or.result ≡ put_value (get_or c.loop-b.bytes c.loop-b.b-index 0) = search rules in
    let b = get_or c.loop-b.bytes c.loop-b.b-index 0 in
    let same : b ≡ get_or c.loop-b.bytes c.loop-b.b-index b = grind (arith, common_steps) in
    rw e (map_over_more put_value c.args.bytes.now c.loop-b.bytes c.loop-b.b-index b (omega arith) c.loop-b.invariant same)
