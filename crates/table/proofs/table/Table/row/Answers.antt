use Rattle.table.proofs.Rows.{row_got}
use Rattle.table.proofs.table.Table.row.Goals as goal

pub returns : goal.returns
returns c = rw (← c.from.ensures) (row_got c.args.self.now _ _ (rw c.deref.ensures.value at c.get.ensures.lookup))
