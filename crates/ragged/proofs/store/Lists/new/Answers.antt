use Rattle.ragged.proofs.Keeps.{made_empty}
use Rattle.ragged.proofs.store.Lists.new.Goals as goal

pub returns : goal.returns
returns g c =
    made_empty _ c.args.lists c.args.items c.in_ok-ends.ensures.0 c.in_ok-items.ensures.0 c.in_ok-ends.ensures.1 c.in_ok-items.ensures.1
