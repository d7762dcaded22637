-- `tefuji::tefuji_fresh` meets its contract.
use Rattle.std.proofs.Common.{◌≡◌, ap, ◌∙◌}
use Rattle.meaning.specs.Desks.{Outcome, fresh_in}
use Rattle.codes.specs.declared.Opening.{Opening}
use Rattle.codes.specs.Codes.{served_code, fresh_at}
use Rattle.tefuji.proofs.Steps.{fresh-opening}
use Rattle.tefuji.proofs.tefuji_fresh.Goals as goal

pub returns : goal.returns
returns c =
    let o = c.opening_in-o.result in
    let is : fresh_in o.number c.args.table.now o.signals o.states c.args.desk.now ≡ fresh_at c.args.table.now c.args.opened c.args.desk.now =
    ap (λ (k : Opening). fresh_in k.number c.args.table.now k.signals k.states c.args.desk.now) c.opening_in-o.ensures ∙ fresh-opening c.args.table.now c.args.desk.now c.args.opened in (
      c.served_code.ensures ∙ ap served_code (c.fresh.ensures.0 ∙ ap (λ (x : Outcome). x.answer) is),
      c.fresh.ensures.1 ∙ ap (λ (x : Outcome). x.desk) is,
    )
