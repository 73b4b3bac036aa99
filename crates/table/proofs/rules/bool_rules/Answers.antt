use Rattle.table.proofs.Closed.{bool_rules}
use Rattle.table.proofs.rules.bool_rules.Goals as goal

pub returns : goal.returns
returns c = bool_rules
