use Rattle.std.proofs.Common.{◌<◌, arith}
use Rattle.model.specs.Rows.{on, nth_row, workable}
use Rattle.model.proofs.Workable.{few, row_work}
use Rattle.narrowing.proofs.Wakes.{mark_more}
use Rattle.narrowing.proofs.waking.wake_touching.Goals as goal

pub loop-row-preserved : goal.loop-row-preserved
loop-row-preserved g c k =
    let rows = g.B.Book.rows c.args.book.now in
    let low : c.loop-row.row < 1024 = omega (arith, few rows, c.workable_count-row-end.ensures, c.loop-row-test.true) in
    cc (c.wake_if_touching.ensures low k, row_work rows c.loop-row.row low, c.loop-row.invariant k, mark_more (λ j. on (nth_row (workable rows) j) c.args.flag) k c.loop-row.row (g.S.Scheduler.waits c.args.scheduler.now k))
