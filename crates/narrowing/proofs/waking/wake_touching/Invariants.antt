use Rattle.std.proofs.Common.{◌≡◌, ℕ, ◌&&◌, ◌||◌, ltb}
use Rattle.model.specs.Rows.{on, nth_row}
use Rattle.model.specs.Rows.{workable}
use Rattle.narrowing.proofs.waking.wake_touching.Given as goal

-- those that waited wait, and the rows so far that have the flag
abbrev pub invariant-loop-row : goal.invariant-loop-row
invariant-loop-row g l =
    (k : ℕ) → g.S.Scheduler.waits l.scheduler k ≡ ((ltb k l.row && on (nth_row (workable (g.B.Book.rows l.book)) k) l.flag) || g.S.Scheduler.waits l.initial.scheduler k)
