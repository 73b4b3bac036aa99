use Rattle.std.proofs.Common.{refl, rules, tests}
use Rattle.std.proofs.lemmas.Iterator.{first_from_find}
use Rattle.model.specs.View.{at}
use Rattle.choosers.proofs.Finding.{yields_flags, Open_at, Shut_at, lowest_found}
use Rattle.choosers.proofs.rising.lowest_open.Goals as goal

pub returns : goal.returns
returns c =
    let b = at c.args.b.now in
    lowest_found b c.args.n 256 c.find.result
    (first_from_find _ _ c.find.result (Open_at b) (Shut_at b) c.find.ensures.ran (yields_flags c.args.n 256 refl c.flags_below.ensures c.map.ensures.source c.map.ensures.closure (λ x r q k. search (rules, tests)))
    (λ x q k. search (rules, tests)) (λ x q k. search (rules, tests)))
