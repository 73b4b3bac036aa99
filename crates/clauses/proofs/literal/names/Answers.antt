use Rattle.std.proofs.Common.{eqb, ◌∙◌, rules, tests}
use Rattle.std.proofs.lemmas.Iterator.{YieldsList-from_slice}
use Rattle.std.proofs.lemmas.Iterator.Search.{any_from_yields_List}
use Rattle.clauses.proofs.Naming.{any_is}
use Rattle.clauses.proofs.literal.names.Goals as goal

pub returns : goal.returns
returns g c =
    let number = g.L.Numbered.number in
    any_from_yields_List (λ l. eqb c.args.flag (number l)) _ _ c.any.result c.any.ensures.ran (YieldsList-from_slice c.args.literals.now cc) (λ x b q k. search (rules, tests))
    ∙ any_is number c.args.flag c.args.literals.now
