use Rattle.std.proofs.Common.{◌∙◌, rules, tests}
use Rattle.std.proofs.lemmas.Iterator.{YieldsList-from_slice}
use Rattle.std.proofs.lemmas.Iterator.Consumers.{YieldsList-from_enumerate}
use Rattle.std.proofs.lemmas.Iterator.Search.{any_from_yields_List}
use Rattle.clauses.proofs.Naming.{again, any_twice}
use Rattle.clauses.proofs.refusing.names_twice.Goals as goal

pub returns : goal.returns
returns c =
    let ls = c.args.clause.now in
    any_from_yields_List (again ls) _ _ c.any.result c.any.ensures.ran (YieldsList-from_enumerate (YieldsList-from_slice ls (cc)) (cc)) (λ x b q k. search (rules, tests))
    ∙ any_twice ls
