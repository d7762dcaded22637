-- The measure is the number itself.
use mathlib.Core.Path.{refl, ap}
use native.Mathlib.Omega.{arith}
use lib.ListN.{length}
use Rattle.text_pieces.proofs.Decimal.{decimal-one, decimal-length}
use Rattle.text_pieces.proofs.Laws.{decimal-one-put, decimal-more-put}
use Rattle.text_pieces.proofs.+put_decimal.Goals as goal

pub bounds-out-at : goal.bounds-out-at
bounds-out-at t c = omega (arith, ap length (decimal-one c.args.n (omega (arith, c.if-n-lt10.true))))

pub returns-then-n-lt10 : goal.returns-then-n-lt10
returns-then-n-lt10 t c = decimal-one-put c.args.out.now c.args.at c.args.n _ (omega (arith, c.if-n-lt10.true)) refl

pub put_decimal-next-requires : goal.put_decimal-next-requires
put_decimal-next-requires t c = (omega arith, omega (arith, decimal-length c.args.n (omega (arith, c.if-n-lt10.false))))

pub bounds-out-next : goal.bounds-out-next
bounds-out-next t c = omega (arith, decimal-length c.args.n (omega (arith, c.if-n-lt10.false)))

pub overflow_add-result-else-n-lt10 : goal.overflow_add-result-else-n-lt10
overflow_add-result-else-n-lt10 t c = omega (arith, decimal-length c.args.n (omega (arith, c.if-n-lt10.false)))

pub returns-else-n-lt10 : goal.returns-else-n-lt10
returns-else-n-lt10 t c = decimal-more-put c.args.n _ (omega (arith, c.if-n-lt10.false)) refl c.put_decimal-next.ensures
