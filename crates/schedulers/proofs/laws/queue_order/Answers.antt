use Rattle.schedulers.proofs.Waits.{queue_order}
use Rattle.schedulers.proofs.laws.queue_order.Goals as goal

pub returns : goal.returns
returns c = queue_order
