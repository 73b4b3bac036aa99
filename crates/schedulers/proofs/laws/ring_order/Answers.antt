use Rattle.schedulers.proofs.Rounds.{ring_order}
use Rattle.schedulers.proofs.laws.ring_order.Goals as goal

pub returns : goal.returns
returns c = ring_order
