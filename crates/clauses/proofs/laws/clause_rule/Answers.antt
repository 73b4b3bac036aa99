use Rattle.clauses.proofs.Stand.{clause_rule}
use Rattle.clauses.proofs.laws.clause_rule.Goals as goal

pub returns : goal.returns
returns c = clause_rule
