use Rattle.std.proofs.Common.{◌≤◌, length, subst}
use Rattle.ragged.proofs.Keeps.{list_got, list_past}
use Rattle.ragged.proofs.store.Lists.get.Goals as goal

pub returns : goal.returns
returns g c =
    list_got c.args.self.now c.args.number c.start_of.result c.in_ok-end.end.now c.part.result
    c.deref.result.now c.deref-3.result.now c.deref-2.result.now c.deref.ensures.value c.deref-3.ensures.value c.deref-2.ensures.value
    c.in_ok-end.ensures.lookup.3.0 c.start_of.ensures (c.in_ok-end.ensures.lookup.3.1 0) c.part.ensures

pub returns-in_err-end : goal.returns-in_err-end
returns-in_err-end g c =
    rw c.from_residual.ensures
    (list_past c.args.self.now c.args.number (subst (λ ends. length ends ≤ c.args.number) c.deref.ensures.value c.in_err-end.ensures.lookup.3))
