use Rattle.std.proofs.Common.{◌≡◌, ℕ, Bool}
use Rattle.model.proofs.Counting.{waiting}
use Rattle.schedulers.specs.Lanes.{among, Tells}
use Rattle.schedulers.proofs.lanes.take_where.Given as goal

-- the numbers that belong still wait
abbrev pub invariant-loop-row : goal.invariant-loop-row
invariant-loop-row g l =
    goal.F-IsAlwaysCallable g l.belongs
    × ((lane : ℕ → Bool) → Tells (goal.F-post g l.belongs) lane → (k : ℕ) → among lane (g.S.Scheduler.waits l.scheduler) k ≡ among lane (g.S.Scheduler.waits l.initial.scheduler) k)

abbrev pub decreases-loop-row : goal.decreases-loop-row
decreases-loop-row g l = waiting (g.S.Scheduler.waits l.scheduler)
