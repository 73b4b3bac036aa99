use Rattle.std.proofs.Common.{rules}
use Rattle.schedulers.specs.Bounds.{marked_within}
use Rattle.schedulers.specs.Marks.{marked}
use Rattle.schedulers.proofs.Rounds.{due_in_turn}
use Rattle.schedulers.proofs.ring.Ring.due.Goals as goal

pub returns : goal.returns
returns c =
    let ring = c.args.self.now in
    due_in_turn (marked ring.waiting) ring.next ring.inside (λ k. marked_within ring.waiting 1024 k ring.size) c.first.result c.or_else.result c.first.ensures c.or_else.ensures (λ p. search rules)
