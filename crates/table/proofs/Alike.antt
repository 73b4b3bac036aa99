-- What the derived comparison of relations between sets tells.
use Rattle.std.proofs.Common.{◌≡◌, true, rules, arith}
use Rattle.std.proofs.lemmas.Bool.{and_parts}
use Rattle.model.specs.contracts.domain.Domain.{the_type, the_row}
use Rattle.model.specs.contracts.domain.DomainPartialEq.TheImpl as domains
use Rattle.model.specs.declared.domain.Domain.{Domain}
use Rattle.table.specs.contracts.relation.RelationPartialEq.TheImpl as relations
use Rattle.table.specs.declared.relation.Relation.{Relation}
use Rattle.table.specs.declared.relation.Relation.TheVariants.{Equal, Not, And, Or}
use denote.Enum.Bare.{sameb, same_true}

one_set : (x y : Domain) → sameb the_type x y ≡ true → x ≡ y
one_set = same_true the_type (search rules)

-- relations whose sets are equal, one by one, are equal
pub same_relation : (a b : Relation Domain) → (relations.ghosts the_row domains.ghosts domains.dict).eq a b ≡ true → a ≡ b
same_relation (Equal x y) (Equal z w) h = grind (arith, one_set)
same_relation (Not x y) (Not z w) h = grind (arith, one_set)
same_relation (And x y u) (And z w v) h = let p = and_parts (sameb the_type x z) _ h in grind (arith, one_set)
same_relation (Or x y u) (Or z w v) h = let p = and_parts (sameb the_type x z) _ h in grind (arith, one_set)
same_relation a b h = cc
