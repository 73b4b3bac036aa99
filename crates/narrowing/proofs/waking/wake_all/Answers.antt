use Rattle.std.proofs.Common.{◌<◌, arith}
use Rattle.std.proofs.lemmas.Bool.Decides.{nat_tests}
use Rattle.model.proofs.Workable.{few}
use Rattle.narrowing.proofs.waking.wake_all.Goals as goal

pub loop-row-preserved : goal.loop-row-preserved
loop-row-preserved g c k =
    let low : c.loop-row.row < 1024 = omega (arith, few (g.B.Book.rows c.args.book.now), c.workable_count-count.ensures, c.loop-row-test.true) in
    grind (arith, nat_tests, (c.wake.ensures.added low).1 k, c.loop-row.invariant k)
