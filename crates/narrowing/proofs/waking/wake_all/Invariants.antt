use Rattle.std.proofs.Common.{◌≡◌, ℕ, ◌||◌, ltb}
use Rattle.narrowing.proofs.waking.wake_all.Given as goal

-- those that waited wait, and the rows so far
abbrev pub invariant-loop-row : goal.invariant-loop-row
invariant-loop-row g l = (k : ℕ) → g.S.Scheduler.waits l.scheduler k ≡ (ltb k l.row || g.S.Scheduler.waits l.initial.scheduler k)
