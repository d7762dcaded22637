-- `rule_file::read_nodes` meets its contract: turn by turn, by the laws of `Progress`.
use native.Mathlib.Omega.{arith}
use mathlib.Core.Path.{sym, ap, ◌∙◌}
use mir.Val.{bool_byte}
use Rattle.rule_nodes.specs.declared.Shape.{Shape}
use Rattle.std.proofs.lemmas.Result.{err_from_is_err_and}
use Rattle.rule_file.specs.Reading.{read_of}
use Rattle.rule_records.proofs.Records.{node-told}
use Rattle.rule_file.proofs.Nodes.{progress-none, progress-more, progress-refused, progress-over, progress-accepted}
use Rattle.rule_file.proofs.read_nodes.Goals as goal

pub loop-i-init : goal.loop-i-init
loop-i-init c = progress-none c.requires.2

pub returns-in_err-node : goal.returns-in_err-node
returns-in_err-node c = let p = err_from_is_err_and c.from_residual.result c.from_residual.ensures.1 in
    rw (p.1, p.2) (sym (ap read_of (progress-refused c.loop-i.invariant _ c.loop-i-test.true (sym c.in_err-node.ensures))))

pub shape_of-requires-in-loop-i : goal.shape_of-requires-in-loop-i
shape_of-requires-in-loop-i c = (node-told c.args.bytes.now _ c.loop-i.p c.loop-i.i c.loop-i.seen _ (sym c.in_ok-node.ensures)).kind

pub loop-i-preserved : goal.loop-i-preserved
loop-i-preserved c = progress-more c.loop-i.invariant c.in_ok-node.node _ _ _ c.requires.1 c.loop-i-test.true (sym c.in_ok-node.ensures)
    c.from.ensures (c.from-in-loop-i.ensures ∙ c.u16_at.ensures) (c.from-seen.ensures ∙ ap (λ (s : Shape). bool_byte s.temporal) c.shape_of.ensures)

pub returns-then-p-bytes : goal.returns-then-p-bytes
returns-then-p-bytes c = sym (ap read_of (progress-over c.loop-i.invariant (omega arith) (omega (arith, c.if-p-bytes.true))))

pub returns : goal.returns
returns c = progress-accepted c.loop-i.invariant (omega arith) (omega (arith, c.if-p-bytes.false))
