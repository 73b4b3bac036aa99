use Rattle.model.specs.View.{at}
use Rattle.model.proofs.Striking.{strikes_none}
use Rattle.table.proofs.Narrowed.{strikes}
use Rattle.table.proofs.table.striking.TableBook.strike.Goals as goal

pub returns-in-Some : goal.returns-in-Some
returns-in-Some c =
    let row = c.in-Some.r.now in
    rw c.in-Some.ensures (strikes row.relation row.different _ _ _ c.narrow.ensures)

pub returns-in-None : goal.returns-in-None
returns-in-None c = rw c.in-None.ensures (strikes_none (at c.args.b.now))
