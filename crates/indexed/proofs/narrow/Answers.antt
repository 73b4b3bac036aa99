use Rattle.model.specs.Rows.{workable}
use Rattle.model.proofs.Workable.{work_proper}
use Rattle.narrowing.proofs.Steps.{dead_already}
use Rattle.indexed.proofs.narrow.Goals as goal

-- a dead box stays as it is
pub returns-then-is_dead : goal.returns-then-is_dead
returns-then-is_dead g c =
    let rows = g.B.Book.rows c.args.book.now in
    record {
      down = λ f v h. h;
      quiet = c.clear.ensures;
      narrowed = λ _. dead_already (workable rows) (work_proper rows (g.met.B.Book.proper c.args.book.now)) _ (c.is_dead.ensures.dead c.if-is_dead.true);
    }
