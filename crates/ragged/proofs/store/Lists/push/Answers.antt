use Rattle.std.proofs.Common.{vec_items, refl}
use Rattle.ragged.proofs.Cuts.{ascends_more}
use Rattle.ragged.proofs.Keeps.{pushed}
use Rattle.ragged.proofs.store.Lists.push.Goals as goal

pub invariant_of-self : goal.invariant_of-self
invariant_of-self g c = record { ordered = ascends_more 0 _ _ (vec_items c.args.self.now.ends) c.put_last.ensures.len c.args.self.now.ordered }

pub returns : goal.returns
returns g c = pushed c.args.item c.args.self.now _ c.put_last.result refl c.put_last.ensures.items c.put_last.ensures.capacity c.put_last.ensures.succeeds
