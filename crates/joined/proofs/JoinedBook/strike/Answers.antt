use Rattle.std.proofs.Common.{sym, subst}
use Rattle.model.specs.Strikes.{Strikes}
use Rattle.model.specs.View.{at}
use Rattle.joined.proofs.JoinedBook.strike.Goals as goal

pub returns-in-Some-First : goal.returns-in-Some-First
returns-in-Some-First g c =
    subst (λ r. Strikes r (at c.args.b.now) (at c.strike.new.b) c.strike.result) (sym c.in-Some-First.ensures) (rw c.in-Some-First.field-0-is c.strike.ensures)

pub returns-in-Some-Second : goal.returns-in-Some-Second
returns-in-Some-Second g c =
    subst (λ r. Strikes r (at c.args.b.now) (at c.strike-in-Some-Second.new.b) c.strike-in-Some-Second.result) (sym c.in-Some-Second.ensures)
    (rw c.in-Some-Second.field-0-is c.strike-in-Some-Second.ensures)
