use Rattle.std.proofs.Common.{take}
use Rattle.model.specs.View.{at}
use Rattle.indexed.specs.Waking.{WokenFor}
use Rattle.indexed.proofs.waking.wake_losses.Given as goal

-- those that waited wait, and those that the flags so far wake
abbrev pub invariant-loop-flag : goal.invariant-loop-flag
invariant-loop-flag g l =
    WokenFor l.index (at l.before) (at l.after) l.row (take l.flag-index l.flags) (g.S.Scheduler.waits l.initial.scheduler) (g.S.Scheduler.waits l.scheduler)
