-- `text_pieces::put_bytes` meets its contract.
use mathlib.Core.Path.{refl}
use native.Mathlib.Omega.{arith}
use Rattle.text_pieces.proofs.Laws.{copied}
use Rattle.text_pieces.proofs.put_bytes.Goals as goal

pub returns : goal.returns
returns c = copied c.args.out.now c.args.bytes.now _ c.args.at _ _ c.requires (omega arith) c.copy_from_slice.ensures.after refl
