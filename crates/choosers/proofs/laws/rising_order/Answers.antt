use Rattle.choosers.proofs.Ordered.{rising_order}
use Rattle.choosers.proofs.laws.rising_order.Goals as goal

pub returns : goal.returns
returns c = rising_order
