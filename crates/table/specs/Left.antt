-- What a relation leaves of the sets of its flags, found by trying every tuple.
use Rattle.std.specs.Prelude.{Bool, true, false, ◌&&◌, ◌||◌}
use Rattle.model.specs.Domains.{has, set_of}
use Rattle.model.specs.declared.domain.Domain.{Domain}
use Rattle.table.specs.Relations.{equal, opposite, both, either}
use Rattle.table.specs.declared.relation.Relation.{Relation}
use Rattle.table.specs.declared.relation.Relation.TheVariants.{Equal, Not, And, Or}

-- some value of a set passes a test
abbrev pub some_in : Domain → (Bool → Bool) → Bool
some_in d p = (has d false && p false) || (has d true && p true)

-- the values of a set that pass a test
abbrev pub those : Domain → (Bool → Bool) → Domain
those d p = set_of (has d false && p false) (has d true && p true)

-- of each set the values for which the other sets have some that pass with it
abbrev pub left_two : (Domain → Domain → Relation Domain) → (Bool → Bool → Bool) → Domain → Domain → Relation Domain
left_two kind p x y = kind (those x (λ a. some_in y (λ b. p a b))) (those y (λ b. some_in x (λ a. p a b)))

abbrev pub left_three : (Domain → Domain → Domain → Relation Domain) → (Bool → Bool → Bool → Bool) → Domain → Domain → Domain → Relation Domain
left_three kind p x y z =
    kind
    (those x (λ a. some_in y (λ b. some_in z (λ c. p a b c))))
    (those y (λ b. some_in z (λ c. some_in x (λ a. p a b c))))
    (those z (λ c. some_in y (λ b. some_in x (λ a. p a b c))))

abbrev pub left : Relation Domain → Relation Domain
left (Equal x y) = left_two Equal equal x y
left (Not x y) = left_two Not opposite x y
left (And x y z) = left_three And both x y z
left (Or x y z) = left_three Or either x y z
