use Rattle.model.specs.View.{at}
use Rattle.indexed.proofs.Cuts.{cut_dead, cut_idle, cut_settled}
use Rattle.indexed.proofs.narrow_to.Goals as goal

pub returns-in-Dead : goal.returns-in-Dead
returns-in-Dead g c =
    rw c.in-Dead.ensures.after
    (cut_dead _ (g.met.B.Book.proper c.args.book.now) c.args.index.now (at c.args.b.now) c.args.fact.flag c.args.fact.value _ c.in-Dead.ensures.says c.clear.ensures)

pub returns-in-Unchanged : goal.returns-in-Unchanged
returns-in-Unchanged g c =
    rw c.in-Unchanged.ensures.after
    (cut_idle _ (g.met.B.Book.proper c.args.book.now) c.args.index.now (at c.args.b.now) c.args.fact.flag c.args.fact.value _ c.in-Unchanged.ensures.says.1 c.clear-in-Unchanged.ensures)

pub returns-in-Changed : goal.returns-in-Changed
returns-in-Changed g c =
    cut_settled _ (g.met.B.Book.proper c.args.book.now) c.args.index.now (at c.args.b.now) c.args.fact.flag c.args.fact.value _
    (g.S.Scheduler.waits c.args.scheduler.now) c.wake_flag.ensures c.in-Changed.ensures.says.0 _ _ _ (rw c.in-Changed.ensures.after at c.settle.ensures)
