use Rattle.model.specs.Rows.{workable}
use Rattle.model.specs.Facts.{no_facts}
use Rattle.gateway_orders.proofs.Agreement.{under_unique}
use Rattle.gateway_orders.proofs.orders.start_all.Goals as goal

pub returns : goal.returns
returns g c =
    let rows = workable (g.B.Book.rows c.args.book.now) in
    let ring = c.in_ok-ring.ensures in (
      ring.0,
      ring.1,
      (under_unique rows no_facts _ _ ring.0 c.in_ok-queue.ensures.0, under_unique rows no_facts _ _ ring.0 c.in_ok-lanes.ensures.0),
    )
