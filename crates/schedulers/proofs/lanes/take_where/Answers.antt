use Rattle.model.proofs.Counting.{waiting-<}
use Rattle.schedulers.proofs.lanes.take_where.Goals as goal

pub loop-row-smaller : goal.loop-row-smaller
loop-row-smaller g c =
    waiting-< _ _ (g.met.S.Scheduler.bounded c.loop-row.scheduler) c.in-Some.row c.in-Some.ensures.0 c.in-Some.ensures.1
