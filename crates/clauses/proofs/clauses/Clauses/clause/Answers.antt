use Rattle.clauses.proofs.Numbered.{clause_got}
use Rattle.clauses.proofs.clauses.Clauses.clause.Goals as goal

pub returns : goal.returns
returns c = clause_got c.args.self.now c.args.number c.get.result c.get.ensures
