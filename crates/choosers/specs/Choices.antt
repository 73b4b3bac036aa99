-- What the choosers pick.
use Rattle.std.specs.Prelude.{ℕ, zero, suc, min, Bool, true, false, cond, List, Some, None, Option, nat_lt, slice_index}
use Rattle.model.specs.Boxes.{Box}
use Rattle.model.specs.declared.domain.Domain.{Domain}
use Rattle.model.specs.declared.domain.Domain.TheVariants.{Empty, Zero, One, Open}

-- whether a flag with this set is open
abbrev pub is_open : Domain → Bool
is_open Empty = false
is_open Zero = false
is_open One = false
is_open Open = true

-- the lowest open flag below n
unfoldable pub lowest : Box → ℕ → Option ℕ
lowest b zero = None
lowest b (suc n) = elim (lowest b n) [ Some f ↦ Some f | None ↦ cond (is_open (b n)) (Some n) None ]

-- the rank of a flag
abbrev pub rank : List ℕ → ℕ → ℕ
rank ranks f = slice_index ranks f

-- of the best flag so far, if there is one, and a higher flag: that of the higher rank, and the lower flag among equals
abbrev pub better : List ℕ → Option ℕ → ℕ → ℕ
better ranks None f = f
better ranks (Some g) f = cond (nat_lt (rank ranks g) (rank ranks f)) f g

-- the open flag of the highest rank below n, and the lowest of several
unfoldable pub highest : List ℕ → Box → ℕ → Option ℕ
highest ranks b zero = None
highest ranks b (suc n) = cond (is_open (b n)) (Some (better ranks (highest ranks b n) n)) (highest ranks b n)

-- a flag, if there is one, with the value to try first
abbrev pub tried : Bool → Option ℕ → Option (ℕ × Bool)
tried v None = None
tried v (Some f) = Some (f, v)

-- the rising chooser's pick: a box has 256 flags, and 0 is tried first
abbrev pub rising : Box → ℕ → Option (ℕ × Bool)
rising b n = tried false (lowest b (min n 256))

-- the ranked chooser's pick: 1 is tried first
abbrev pub ranked : List ℕ → Box → ℕ → Option (ℕ × Bool)
ranked ranks b n = tried true (highest ranks b (min n 256))
