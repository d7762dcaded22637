-- `rule_text::write` meets its contract.
use native.Mathlib.Omega.{arith}
use lib.ListN.{length-take}
use Rattle.rule_text.proofs.Answers.{too_long, outside, signs-parse, inside}
use Rattle.rule_text.proofs.Rights.{written}
use Rattle.rule_text.proofs.write.Goals as goal

pub returns-then-text-gt1024 : goal.returns-then-text-gt1024
returns-then-text-gt1024 c =
    let a = written _ _ _ _ _ (too_long c.args.text.now c.args.signals c.args.rule.now (omega (arith, c.if-text-gt1024.true))) in
    record { answer = a.0; output = a.1.0; reading = a.1.1.0; right = a.1.1.1 }

pub write_signs-requires : goal.write_signs-requires
write_signs-requires c = (simp length-take (omega (arith, c.in-Ok.ensures.inside, c.if-text-gt1024.false)), signs-parse c.in-Ok.ensures)

pub returns-in-Err : goal.returns-in-Err
returns-in-Err c =
    let w = outside c.args.signals c.args.rule.now (omega (arith, c.if-text-gt1024.false)) c.in-Err.ensures in
    let a = written _ _ _ _ _ w in
    record { answer = a.0; output = a.1.0; reading = a.1.1.0; right = a.1.1.1 }

pub returns-in-Ok : goal.returns-in-Ok
returns-in-Ok c =
    let r = inside c.args.signals c.args.rule.now _ _ (omega (arith, c.if-text-gt1024.false)) c.in-Ok.ensures c.write_signs.ensures.value c.write_signs.ensures.rule_after in
    let a = written _ _ _ _ _ r in
    record { answer = a.0; output = a.1.0; reading = a.1.1.0; right = a.1.1.1 }
