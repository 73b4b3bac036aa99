use Rattle.std.proofs.Common.{◌∙◌, arith}
use Rattle.model.specs.View.{at}
use Rattle.model.specs.declared.domain.Domain.TheVariants.{Empty}
use Rattle.model.proofs.Holding.{read_at}
use Rattle.model.proofs.boxes.FlagBox.get.Goals as goal

pub returns : goal.returns
unfolding at
returns c = c.read.ensures.0 ∙ read_at c.args.self.now.sets c.args.flag Empty (omega arith) c.read.ensures.1
