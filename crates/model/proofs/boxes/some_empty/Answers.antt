use denote.Enum.Bare.{sameb, same_true}
use Rattle.std.proofs.Common.{rules, arith, refl}
use Rattle.model.specs.contracts.domain.Domain.{the_type}
use Rattle.model.specs.declared.domain.Domain.TheVariants.{Empty}
use Rattle.model.proofs.Holding.{found}
use Rattle.model.proofs.boxes.some_empty.Goals as goal

pub returns : goal.returns
returns c =
    found (λ d. sameb the_type d Empty) (λ d e. same_true the_type (search rules) d Empty e) refl c.args.sets.now c.contains.result (omega arith) c.contains.ensures.cases
