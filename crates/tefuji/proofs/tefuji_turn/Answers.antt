-- `tefuji::tefuji_turn` meets its contract.
use Rattle.std.proofs.Common.{ℕ}
use Rattle.desk_tasks.specs.declared.Request.TheVariants.{Turn}
use Rattle.tefuji.proofs.Serving.{answer_is, desk-is}
use Rattle.tefuji.proofs.tefuji_turn.Goals as goal

pub returns : goal.returns
returns c =
    let ask = λ (k : ℕ). Turn k c.args.last in (
      answer_is c.args.table.now c.args.opened c.args.desk.now ask c.turn_request.result c.opening_in-o.result c.opening_in-o.ensures c.turn_request.ensures c.serve.ensures.0 c.served_code.ensures,
      desk-is c.args.table.now c.args.opened c.args.desk.now ask c.turn_request.result c.opening_in-o.result c.opening_in-o.ensures c.turn_request.ensures c.serve.ensures.1,
    )
