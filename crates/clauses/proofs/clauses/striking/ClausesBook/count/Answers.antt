use Rattle.std.proofs.Common.{sym, ◌∙◌}
use Rattle.clauses.proofs.Numbered.{length-listed}
use Rattle.clauses.proofs.clauses.striking.ClausesBook.count.Goals as goal

pub returns : goal.returns
returns c = c.len.ensures ∙ sym (length-listed c.args.self.now)
