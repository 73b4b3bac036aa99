use Rattle.joined.proofs.Joining.{located}
use Rattle.joined.proofs.Joined.locate.Goals as goal

pub returns : goal.returns
returns g c =
    let j = c.args.self.now in
    located (g.A.Book.rows j.first) (g.B.Book.rows j.second) c.args.row c.count.result c.count.ensures c.place_of.result c.place_of.ensures
