use Rattle.clauses.proofs.clauses.Clauses.new.Goals as goal

pub invariant_of-result-clause-literal_room : goal.invariant_of-result-clause-literal_room
invariant_of-result-clause-literal_room c = c.in_ok-lists.ensures.item_memory
