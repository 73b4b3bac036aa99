use Rattle.std.proofs.Common.{arith}
use Rattle.std.proofs.lemmas.List.{length-take}
use Rattle.model.proofs.book.workable_count.Goals as goal

pub returns : goal.returns
returns g c =
    omega (arith, c.capped.ensures, c.count.ensures, length-take 65535 (g.B.Book.rows c.args.book.now), length-take 1024 (g.B.Book.rows c.args.book.now))
