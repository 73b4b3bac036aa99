use Rattle.std.proofs.Common.{ap, sym, ◌∙◌}
use Rattle.model.specs.contracts.domain.Domain.{the_type}
use Rattle.model.specs.declared.domain.Domain.TheVariants.{Empty}
use Rattle.table.proofs.Alike.{same_relation}
use Rattle.table.proofs.table.striking.verdict.Goals as goal
use denote.Enum.Bare.{same_false}

pub returns-then-eq-2 : goal.returns-then-eq-2
returns-then-eq-2 c = (
  λ e. same_false the_type c.places-first.result.0 Empty (sym c.if-eq.ensures) (ap (λ p. p.0) c.places-first.ensures ∙ e),
  same_relation c.args.after c.args.before (sym c.eq-else-eq.ensures ∙ c.if-eq-2.true),
)
