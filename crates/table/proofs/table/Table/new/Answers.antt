use Rattle.table.proofs.table.Table.new.Goals as goal

pub invariant_of-result-clause-room : goal.invariant_of-result-clause-room
invariant_of-result-clause-room c = c.in_ok-rows.ensures.capacity
