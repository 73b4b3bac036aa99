use Rattle.std.proofs.Common.{◌∙◌, arith}
use Rattle.model.specs.View.{at}
use Rattle.model.specs.declared.strike.Strike.TheVariants.{Changed}
use Rattle.model.proofs.Counting.{waiting-<}
use Rattle.model.proofs.Sizes.{size_same}
use Rattle.narrowing.proofs.Steps.{progress_same, progress_more, pending_unchanged, pending_changed, size_changed, narrowed_alive, narrowed_dead, dead_down}
use Rattle.narrowing.proofs.settle.Goals as goal

pub striking-smaller : goal.striking-smaller
striking-smaller g c =
    waiting-< _ _ (g.met.S.Scheduler.bounded c.striking.scheduler) c.in-Some.row c.in-Some.ensures.0 c.in-Some.ensures.1

pub striking-preserved : goal.striking-preserved
striking-preserved g c = record {
  progress = progress_same _ _ _ _ c.in-Unchanged.ensures.says.1 c.striking.invariant.progress;
  pending = λ p. pending_unchanged _ _ _ c.in-Some.row (g.met.S.Scheduler.bounded c.striking.scheduler c.in-Some.row c.in-Some.ensures.0) _ _ c.in-Some.ensures.1 c.in-Unchanged.ensures (c.striking.invariant.pending p);
  same = λ f. c.in-Unchanged.ensures.says.1 f ∙ c.striking.invariant.same f;
}

pub waking-smaller : goal.waking-smaller
waking-smaller g c =
    let l = size_changed _ (g.met.B.Book.proper c.args.book.now) c.in-Some.row _ _ c.in-Changed.ensures in
    omega (arith, l, size_same (at c.striking.b) (at c.waking.b) c.striking.invariant.same)

pub waking-preserved : goal.waking-preserved
waking-preserved g c = record {
  progress = progress_more _ c.in-Some.row (g.met.S.Scheduler.bounded c.striking.scheduler c.in-Some.row c.in-Some.ensures.0) _ _ _ Changed c.in-Changed.ensures c.in-Changed.ensures.says.0 c.striking.invariant.progress;
  pending = λ p. pending_changed _ _ _ c.in-Some.row (g.met.S.Scheduler.bounded c.striking.scheduler c.in-Some.row c.in-Some.ensures.0) _ _ c.in-Some.ensures.1 _ c.in-Changed.ensures c.wake_neighbours.ensures (c.striking.invariant.pending p);
}

pub returns-in_default : goal.returns-in_default
returns-in_default g c =
    record {
      down = c.striking.invariant.progress.down;
      narrowed = λ a p. narrowed_alive _ _ _ _ c.in_default.ensures.0 (c.striking.invariant.pending p) a c.striking.invariant.progress;
    }

pub returns-in-Dead : goal.returns-in-Dead
returns-in-Dead g c =
    record {
      down = dead_down _ c.in-Some.row (g.met.S.Scheduler.bounded c.striking.scheduler c.in-Some.row c.in-Some.ensures.0) _ _ _ c.in-Dead.ensures c.striking.invariant.progress;
      narrowed = λ a p.
          narrowed_dead _ c.in-Some.row (g.met.S.Scheduler.bounded c.striking.scheduler c.in-Some.row c.in-Some.ensures.0) _ _ _ (g.met.B.Book.proper c.args.book.now) c.in-Dead.ensures c.striking.invariant.progress;
    }
