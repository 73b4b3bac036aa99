use Rattle.choosers.proofs.Ordered.{ranked_order}
use Rattle.choosers.proofs.laws.ranked_order.Goals as goal

pub returns : goal.returns
returns c = ranked_order
