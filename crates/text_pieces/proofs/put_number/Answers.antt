-- `text_pieces::put_number` meets its contract.
use native.Mathlib.Omega.{arith}
use Rattle.text_pieces.proofs.Decimal.{decimal-u16}
use Rattle.text_pieces.proofs.put_number.Goals as goal

pub put_decimal-requires : goal.put_decimal-requires
put_decimal-requires c = omega (arith, decimal-u16 c.from.result (omega arith))

pub returns-clause-upper_bound : goal.returns-clause-upper_bound
returns-clause-upper_bound c = omega (arith, decimal-u16 c.from.result (omega arith))
