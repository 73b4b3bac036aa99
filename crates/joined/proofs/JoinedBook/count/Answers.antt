use Rattle.joined.proofs.Joining.{count_joined}
use Rattle.joined.proofs.JoinedBook.count.Goals as goal

pub returns : goal.returns
returns g c =
    let j = c.args.self.now in
    count_joined (g.A.Book.rows j.first) (g.B.Book.rows j.second) c.count.result c.count-2.result c.total.result c.count.ensures c.count-2.ensures c.total.ensures
