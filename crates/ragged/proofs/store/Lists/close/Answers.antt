use Rattle.std.proofs.Common.{vec_items, refl}
use Rattle.ragged.proofs.Keeps.{closed, ends_closed}
use Rattle.ragged.proofs.store.Lists.close.Goals as goal

pub invariant_of-self : goal.invariant_of-self
invariant_of-self g c = record { ordered = ends_closed c.args.self.now (vec_items c.put_last.new.items) _ c.put_last.result c.count.ensures c.put_last.ensures.items }

pub returns : goal.returns
returns g c = closed c.args.self.now _ _ c.put_last.result refl c.put_last.ensures.items c.count.ensures c.put_last.ensures.capacity c.put_last.ensures.succeeds
