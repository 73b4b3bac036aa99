use Rattle.model.specs.View.{at}
use Rattle.clauses.proofs.Looking.{look_more, look_none}
use Rattle.clauses.proofs.clause.survey.Goals as goal

pub loop-literal-preserved : goal.loop-literal-preserved
loop-literal-preserved c =
    look_more (at c.args.b.now) c.args.clause.now c.loop-literal.literal-index c.loop-literal.seen c.in-Some.more c.loop-literal-test.true c.loop-literal.invariant c.in-Some.ensures

pub returns-in-None : goal.returns-in-None
returns-in-None c =
    look_none (at c.args.b.now) c.args.clause.now c.loop-literal.literal-index c.loop-literal.seen c.loop-literal-test.true c.in-None.ensures
