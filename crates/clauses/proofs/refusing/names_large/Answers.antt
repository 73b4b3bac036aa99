use Rattle.std.proofs.Common.{ltb, ◌∙◌, rules, tests}
use Rattle.std.proofs.lemmas.Iterator.{YieldsList-from_slice}
use Rattle.std.proofs.lemmas.Iterator.Search.{any_from_yields_List}
use Rattle.clauses.proofs.Naming.{any_large}
use Rattle.clauses.proofs.refusing.names_large.Goals as goal

pub returns : goal.returns
returns c =
    any_from_yields_List (λ l. ltb 255 l.flag) _ _ c.any.result c.any.ensures.ran (YieldsList-from_slice c.args.clause.now cc) (λ x b q k. search (rules, tests))
    ∙ any_large c.args.clause.now
