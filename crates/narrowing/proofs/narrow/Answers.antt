use Rattle.model.specs.Rows.{workable}
use Rattle.narrowing.proofs.Steps.{dead_already}
use Rattle.model.proofs.Workable.{work_proper}
use Rattle.narrowing.proofs.narrow.Goals as goal

-- a dead box stays as it is
pub returns-then-is_dead : goal.returns-then-is_dead
returns-then-is_dead g c =
    let rows = g.B.Book.rows c.args.book.now in
    dead_already (workable rows) (work_proper rows (g.met.B.Book.proper c.args.book.now)) _ (c.is_dead.ensures.dead c.if-is_dead.true)
