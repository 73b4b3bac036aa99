use Rattle.std.proofs.Common.{◌≡◌, false, true, rules}
use Rattle.std.proofs.lemmas.Iterator.{first_from_Range}
use Rattle.schedulers.specs.Marks.{marked}
use Rattle.schedulers.proofs.Rounds.{walked}
use borrow.Author.Tests.{tests}
use Rattle.schedulers.proofs.ring.Ring.first.Goals as goal

pub returns : goal.returns
returns c =
    let ring = c.args.self.now in
    let found = first_from_Range _ _ _ c.find.result (λ k. marked ring.waiting k ≡ true) (λ k. marked ring.waiting k ≡ false) c.find.ensures.ran (λ x q k. search (rules, tests)) (λ x q k. search (rules, tests)) in
    walked _ ring.bound c.args.from c.args.to ring.quiet c.find.result (rw c.min.ensures at found)
