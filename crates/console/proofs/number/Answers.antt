-- `console::number` meets its contract.
use Rattle.std.proofs.Common.{subst, arith, take_all}
use Rattle.std.specs.Io.KnownBytes.{Consumes}
use Rattle.console.proofs.number.Goals as goal

pub returns-else-got-lt2 : goal.returns-else-got-lt2
returns-else-got-lt2 g c =
    let two = c.read_full.new.buffer in
    record {
      bytes = two;
      two = omega arith;
      value = omega arith;
      lost = subst (Consumes _ _) (take_all c.in_ok-got.got two (omega arith)) c.in_ok-got.ensures.known;
    }
