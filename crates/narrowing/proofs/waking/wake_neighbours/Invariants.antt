use Rattle.std.proofs.Common.{◌≡◌, ℕ, true, ◌⊎◌, ◌↔◌}
use Rattle.model.specs.Rows.{nth_row, row_at}
use Rattle.model.specs.Rows.{workable}
use Rattle.narrowing.proofs.Wakes.{Below}
use Rattle.narrowing.proofs.waking.wake_neighbours.Given as goal

-- those that waited wait, and the rows that share a flag so far with the given one
abbrev pub invariant-loop-flag : goal.invariant-loop-flag
invariant-loop-flag g l =
    (k : ℕ)
    → (g.S.Scheduler.waits l.scheduler k ≡ true)
    ↔ (Below (row_at (g.B.Book.rows l.book) l.row) (nth_row (workable (g.B.Book.rows l.book)) k) l.flag
    ⊎ (g.S.Scheduler.waits l.initial.scheduler k ≡ true))
