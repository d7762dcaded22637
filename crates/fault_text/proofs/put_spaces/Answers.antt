-- `fault_text::put_spaces` meets its contract.
use mathlib.Core.Path.{◌≡◌}
use Prim.Native.Nat.{ℕ}
use native.Mathlib.Omega.{arith}
use Rattle.std.proofs.lemmas.Grind.{common_steps}
use lib.ListN.{replicate, length-replicate}
use Rattle.text_pieces.proofs.Laws.{copied}
use Rattle.fault_text.proofs.put_spaces.Goals as goal

pub returns : goal.returns
returns c =
    let size = length-replicate {A = ℕ} c.args.n 32 in
    let spaces : c.fill.new.self ≡ replicate c.args.n 32 = grind (arith, common_steps, c.fill.ensures.after) in
    copied c.args.out.now (replicate c.args.n 32) _ c.args.at _ _ (omega (arith, size)) (omega (arith, size)) spaces (omega (arith, size))
