use Rattle.std.proofs.Common.{◌≡◌, ℕ}
use Rattle.model.specs.Rows.{workable}
use Rattle.model.specs.View.{at}
use Rattle.model.proofs.Counting.{waiting}
use Rattle.model.proofs.Sizes.{size}
use Rattle.narrowing.specs.Narrowing.{Pending}
use Rattle.narrowing.proofs.Steps.{Progress}
use Rattle.indexed.specs.Narrowing.{Started}
use Rattle.indexed.proofs.settle.Given as goal

-- the largest box is kept, each row waits or is settled, and the box is as the outer turn found it
abbrev pub invariant-striking : goal.invariant-striking
invariant-striking g l = record {
  progress : Progress (workable (g.B.Book.rows l.book)) (at l.fn.b) (at l.b);
  pending : Started (g.B.Book.rows l.book) l.index (g.S.Scheduler.waits l.fn.scheduler) (at l.fn.b) → Pending (workable (g.B.Book.rows l.book)) (g.S.Scheduler.waits l.scheduler) (at l.b);
  same : (f : ℕ) → at l.b f ≡ at l.initial.b f;
}

abbrev pub decreases-striking : goal.decreases-striking
decreases-striking g l = waiting (g.S.Scheduler.waits l.scheduler)

-- the largest box is kept, each row waits or is settled, and the box seen is the box
abbrev pub invariant-waking : goal.invariant-waking
invariant-waking g l = record {
  progress : Progress (workable (g.B.Book.rows l.book)) (at l.fn.b) (at l.b);
  pending : Started (g.B.Book.rows l.book) l.index (g.S.Scheduler.waits l.fn.scheduler) (at l.fn.b) → Pending (workable (g.B.Book.rows l.book)) (g.S.Scheduler.waits l.scheduler) (at l.b);
  seen : Started (g.B.Book.rows l.book) l.index (g.S.Scheduler.waits l.fn.scheduler) (at l.fn.b) → (f : ℕ) → at l.seen f ≡ at l.b f;
}

abbrev pub decreases-waking : goal.decreases-waking
decreases-waking g l = size (at l.b)
