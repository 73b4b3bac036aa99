use Rattle.indexed.proofs.Steps.{orders_agree}
use Rattle.indexed.proofs.laws.orders_agree.Goals as goal

pub returns : goal.returns
returns c = orders_agree
