use Rattle.std.proofs.lemmas.Result.{err_from_is_err_and}
use Rattle.clauses.proofs.Putting.{push_refused}
use Rattle.clauses.proofs.storing.push_all.Goals as goal

pub returns-in_err-push : goal.returns-in_err-push
returns-in_err-push c =
    let p = err_from_is_err_and c.from_residual.result c.from_residual.ensures.1 in
    rw (p.1, p.2) (push_refused c.args.clause.now c.loop-literal.literal-index c.args.lists.now c.loop-literal.lists c.push.new.lists c.loop-literal.invariant c.loop-literal-test.true _ c.in_err-push.ensures)
