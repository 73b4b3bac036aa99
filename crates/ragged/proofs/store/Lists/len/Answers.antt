use Rattle.std.proofs.Common.{◌∙◌}
use Rattle.ragged.proofs.Keeps.{count_lists}
use Rattle.ragged.proofs.store.Lists.len.Goals as goal

pub returns : goal.returns
returns g c = c.count.ensures ∙ count_lists c.args.self.now
