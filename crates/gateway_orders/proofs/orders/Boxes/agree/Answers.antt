use Rattle.std.proofs.Common.{sym, ◌∙◌, true≢false}
use Rattle.model.proofs.Holding.{equal_same, same_equal}
use Rattle.gateway_orders.proofs.orders.Boxes.agree.Goals as goal

pub returns-then-eq-clause-yes : goal.returns-then-eq-clause-yes
returns-then-eq-clause-yes c = let b = c.args.self.now in
    λ yes. (equal_same b.ring b.queue (sym c.if-eq.ensures), equal_same b.ring b.lanes (sym c.eq-then-eq.ensures ∙ yes))

pub returns-then-eq-clause-no : goal.returns-then-eq-clause-no
returns-then-eq-clause-no c = let b = c.args.self.now in
    λ no same. true≢false (sym (same_equal b.ring b.lanes same.1) ∙ (sym c.eq-then-eq.ensures ∙ no))

pub returns-else-eq-clause-no : goal.returns-else-eq-clause-no
returns-else-eq-clause-no c = let b = c.args.self.now in
    λ no same. true≢false (sym (same_equal b.ring b.queue same.0) ∙ sym c.if-eq.ensures)
