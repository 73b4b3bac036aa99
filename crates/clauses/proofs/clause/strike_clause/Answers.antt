use Rattle.std.proofs.Common.{subst}
use Rattle.model.specs.View.{at}
use Rattle.clauses.specs.Literals.{flags_of}
use Rattle.clauses.specs.Outlooks.{Acts}
use Rattle.clauses.proofs.Struck.{strikes}
use Rattle.clauses.proofs.clause.strike_clause.Goals as goal

pub returns : goal.returns
returns c some apart =
    let ls = c.args.clause.now in
    let before = at c.args.b.now in
    let after = at c.act.new.b in
    let answer = c.act.result in
    strikes ls some apart before after answer (subst (λ o. Acts o (flags_of ls) before after answer) c.survey-outlook.ensures c.act.ensures)
