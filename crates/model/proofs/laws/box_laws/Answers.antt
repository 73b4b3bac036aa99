use Rattle.model.proofs.Stand.{box_laws}
use Rattle.model.proofs.laws.box_laws.Goals as goal

pub returns : goal.returns
returns c = box_laws
