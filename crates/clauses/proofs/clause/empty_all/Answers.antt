use Rattle.model.specs.View.{at}
use Rattle.clauses.proofs.Looking.{emptied_more}
use Rattle.clauses.proofs.clause.empty_all.Goals as goal

pub loop-literal-preserved : goal.loop-literal-preserved
loop-literal-preserved c =
    emptied_more c.args.clause.now c.loop-literal.literal-index (at c.args.b.now) (at c.loop-literal.b) (at c.empty.new.b) c.loop-literal-test.true c.loop-literal.invariant c.empty.ensures
