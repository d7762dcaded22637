-- `fault_text::put_marked` meets its contract.
use native.Mathlib.Omega.{arith}
use mathlib.Core.Path.{◌≡◌, ap}
use mathlib.Core.List.{List, map}
use Prim.Native.Nat.{ℕ, min}
use lib.ListN.{length, take, replicate}
use Rattle.text_pieces.proofs.Laws.{put-more, put_is}
use Rattle.fault_text.specs.Fault.{shown}
use Rattle.fault_text.proofs.Laws.{take-capped}
use Rattle.fault_text.proofs.put_marked.Goals as goal

pub returns-clause-put : goal.returns-clause-put
returns-clause-put c =
    let text = c.args.text.now in
    let long : c.min-n.result ≡ min (length text) 1024 = omega (arith, c.min-n.ensures) in
    let wide : c.min.result ≡ min c.args.place 1024 = omega (arith, c.min.ensures) in
    let line = put_is c.put_shown-end.ensures (map shown (take 1024 text)) (ap (λ (t : List ℕ). map shown t) (take-capped 1024 c.min-n.result text long)) in
    let spaces = put_is c.put_spaces-mark.ensures (replicate (min c.args.place 1024) 32) (ap (λ (k : ℕ). replicate k 32) wide) in
    put-more (put-more (put-more line c.put_bytes-below.ensures) spaces) c.put_bytes.ensures
