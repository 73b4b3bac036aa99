use Rattle.std.proofs.Common.{take}
use Rattle.indexed.specs.Waking.{WokenEach}
use Rattle.indexed.proofs.waking.wake_each.Given as goal

-- those that waited wait, and the rows so far
abbrev pub invariant-loop-row : goal.invariant-loop-row
invariant-loop-row g l = WokenEach l.but (take l.row-index l.rows) (g.S.Scheduler.waits l.initial.scheduler) (g.S.Scheduler.waits l.scheduler)
