use Rattle.model.specs.Rows.{workable}
use Rattle.stories.proofs.Outcomes.{starts_alive, starts_dead}
use Rattle.gateway_orders.proofs.telling.start.Goals as goal

pub returns-in-Alive : goal.returns-in-Alive
returns-in-Alive g c = starts_alive (workable (g.B.Book.rows c.args.book.now)) _ _ c.all_open-b.ensures c.in-Alive.ensures.narrowed

pub returns-in-Dead : goal.returns-in-Dead
returns-in-Dead g c = starts_dead (workable (g.B.Book.rows c.args.book.now)) _ _ c.all_open-b.ensures c.in-Dead.ensures.narrowed
