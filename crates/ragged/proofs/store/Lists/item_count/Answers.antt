use Rattle.std.proofs.Common.{◌∙◌}
use Rattle.ragged.proofs.Keeps.{count_all}
use Rattle.ragged.proofs.store.Lists.item_count.Goals as goal

pub returns : goal.returns
returns g c = c.count.ensures ∙ count_all c.args.self.now
