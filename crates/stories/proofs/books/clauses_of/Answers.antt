use Rattle.std.proofs.Common.{rules}
use Rattle.stories.proofs.Adding.{clause_refused}
use Rattle.stories.proofs.books.clauses_of.Goals as goal

pub returns-in_err-add-clause-refused : goal.returns-in_err-add-clause-refused
returns-in_err-add-clause-refused c =
    let r = clause_refused c.args.clauses.now c.loop-clause.clause-index _ c.loop-clause.book c.add.new.self _ c.loop-clause-test.true c.loop-clause.invariant c.in_err-add.ensures in search rules
