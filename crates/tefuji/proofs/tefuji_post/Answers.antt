-- `tefuji::tefuji_post` meets its contract.
use Rattle.std.proofs.Common.{ℕ}
use Rattle.desk_tasks.specs.declared.Request.TheVariants.{Post}
use Rattle.tefuji.proofs.Serving.{answer_is, desk-is}
use Rattle.tefuji.proofs.tefuji_post.Goals as goal

pub returns : goal.returns
returns c =
    let ask = λ (k : ℕ). Post k c.args.number c.args.event in (
      answer_is c.args.table.now c.args.opened c.args.desk.now ask c.post_request.result c.opening_in-o.result c.opening_in-o.ensures c.post_request.ensures c.serve.ensures.0 c.served_code.ensures,
      desk-is c.args.table.now c.args.opened c.args.desk.now ask c.post_request.result c.opening_in-o.result c.opening_in-o.ensures c.post_request.ensures c.serve.ensures.1,
    )
