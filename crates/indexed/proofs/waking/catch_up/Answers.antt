use Rattle.std.proofs.Common.{get_or, ap, ◌∙◌}
use Rattle.model.specs.Boxes.{with_set}
use Rattle.model.specs.View.{at}
use Rattle.indexed.proofs.Wakes.{caught_more}
use Rattle.indexed.proofs.waking.catch_up.Goals as goal

pub loop-flag-preserved : goal.loop-flag-preserved
loop-flag-preserved c =
    caught_more (at c.args.b.now) (at c.args.seen.now) (at c.loop-flag.seen) (at c.put.new.self) c.args.flags.now c.loop-flag.flag-index c.loop-flag-test.true c.loop-flag.invariant
    (c.put.ensures ∙ ap (with_set (at c.loop-flag.seen) (get_or c.args.flags.now c.loop-flag.flag-index 0)) c.get.ensures)
