use Rattle.std.proofs.Common.{◌∙◌}
use Rattle.table.proofs.Rows.{listed_count}
use Rattle.table.proofs.table.striking.TableBook.count.Goals as goal

pub returns : goal.returns
returns c = c.len.ensures ∙ listed_count c.args.self.now
