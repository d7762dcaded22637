-- `rule_file::read` meets its contract. By the readings of the first record and of the mask.
use native.Mathlib.Omega.{arith}
use mathlib.Core.Path.{sym}
use Rattle.rule_records.proofs.Records.{header-few}
use Rattle.rule_records.proofs.Masks.{mask-near}
use Rattle.rule_file.proofs.read.Goals as goal

pub read_mask-requires : goal.read_mask-requires
read_mask-requires c = (header-few c.args.bytes.now c.in_ok-header.header (sym c.in_ok-header.ensures)).0

pub read_nodes-requires : goal.read_nodes-requires
read_nodes-requires c =
    let few = header-few c.args.bytes.now c.in_ok-header.header (sym c.in_ok-header.ensures) in
    (few.0, few.1, omega (arith, mask-near c.args.bytes.now c.in_ok-header.header.signals c.in_ok-mask.mask (sym c.in_ok-mask.ensures)))
