use Rattle.std.proofs.Common.{◌&&◌, ◌||◌, eqb, sym, ap, ◌∙◌}
use Rattle.narrowing.proofs.waking.wake_if_touching.Goals as goal

pub returns-then-touches : goal.returns-then-touches
returns-then-touches g c =
    λ low k. (c.wake.ensures.added low).1 k ∙ sym (ap (λ x. (x && eqb k c.args.row) || g.S.Scheduler.waits c.args.scheduler.now k) (sym c.touches.ensures ∙ c.if-touches.true))
