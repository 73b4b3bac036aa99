use Rattle.std.proofs.Common.{ap, ◌∙◌, arith}
use Rattle.model.specs.View.{at}
use Rattle.model.proofs.Holding.{of_list, set_with}
use Rattle.model.proofs.boxes.FlagBox.put.Goals as goal

pub returns : goal.returns
unfolding at
returns c = ap of_list c.write.ensures.0 ∙ set_with c.args.self.now.sets c.args.flag c.args.domain (omega arith) c.write.ensures.1
