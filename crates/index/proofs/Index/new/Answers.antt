use Rattle.index.proofs.Gathered.{indexed}
use Rattle.index.proofs.Index.new.Goals as goal

pub returns : goal.returns
returns g c = indexed (g.B.Book.rows c.args.book.now) _ c.in_ok-rows.ensures c.in_ok-flags.ensures
