use Rattle.std.proofs.Common.{ap, ◌∙◌}
use Rattle.model.specs.View.{at}
use Rattle.model.proofs.Holding.{of_list, open_sets}
use Rattle.model.proofs.boxes.FlagBox.all_open.Goals as goal

pub returns : goal.returns
unfolding at
returns c = ap of_list c.open_sets.ensures ∙ open_sets 256
