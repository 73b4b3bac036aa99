use Rattle.model.specs.Rows.{workable}
use Rattle.gateway_orders.proofs.Agreement.{told_all}
use Rattle.gateway_orders.proofs.orders.tell_all.Goals as goal

pub returns : goal.returns
returns g c = told_all (workable (g.B.Book.rows c.args.book.now)) c.args.boxes.now _ c.args.fact.flag c.args.fact.value _ _ _ c.tell-verdict.ensures c.tell.ensures c.tell-2.ensures
