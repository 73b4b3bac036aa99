use Rattle.clauses.proofs.Putting.{held}
use Rattle.clauses.proofs.clauses.Clauses.add.Goals as goal

pub invariant_of-self : goal.invariant_of-self
invariant_of-self c =
    let book = c.args.self.now in
    let h = held book.lists c.put.new.lists c.args.clause.now c.put.result c.put.ensures c.len.result c.item_count.result c.len.ensures c.item_count.ensures c.in_ok-check.ensures book.closed book.short book.clause_room book.literal_room book.sound in
    record { few = h.0; short = h.1; closed = h.2; clause_room = h.3; literal_room = h.4; sound = h.5 }
