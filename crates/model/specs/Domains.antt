-- The sets of values that a flag may have.
use Rattle.std.specs.Prelude.{◌≡◌, Bool, true, false, not, ◌&&◌}
use Rattle.model.specs.declared.domain.Domain.{Domain}
use Rattle.model.specs.declared.domain.Domain.TheVariants.{Empty, Zero, One, Open}

-- whether a set has a value
abbrev pub has : Domain → Bool → Bool
has Empty v = false
has Zero v = not v
has One v = v
has Open v = true

-- whether a set has no value
abbrev pub is_empty : Domain → Bool
is_empty Empty = true
is_empty Zero = false
is_empty One = false
is_empty Open = false

abbrev pub Has : Domain → Bool → Type 0
Has d v = has d v ≡ true

-- the set of the values that pass: whether 0 does, whether 1 does
abbrev pub set_of : Bool → Bool → Domain
set_of false false = Empty
set_of true false = Zero
set_of false true = One
set_of true true = Open

-- the set of one value
abbrev pub only : Bool → Domain
only false = Zero
only true = One

-- a set without the other value
abbrev pub cut_set : Domain → Bool → Domain
cut_set d v = set_of (not v && has d false) (v && has d true)
