use Rattle.model.proofs.Holding.{dead_or_alive}
use Rattle.model.proofs.boxes.FlagBox.is_dead.Goals as goal

pub returns : goal.returns
returns c = let (d, a) = dead_or_alive c.args.self.now c.some_empty.result c.some_empty.ensures in record { dead = d; alive = a }
