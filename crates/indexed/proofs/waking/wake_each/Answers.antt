use Rattle.indexed.proofs.Wakes.{each_more}
use Rattle.indexed.proofs.waking.wake_each.Goals as goal

pub loop-row-preserved : goal.loop-row-preserved
loop-row-preserved g c k =
    cc (c.wake_unless.ensures k, c.loop-row.invariant k, each_more c.args.but c.args.rows.now c.loop-row.row-index k (g.S.Scheduler.waits c.args.scheduler.now k) c.loop-row-test.true)
