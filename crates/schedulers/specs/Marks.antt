-- Marks: a list of yes and no, read as the set of the numbers that are marked.
use Rattle.std.specs.Prelude.{ℕ, Bool, false, ◌&&◌, List, count_by, nat_lt, slice_index_or}

abbrev pub marked : List Bool → ℕ → Bool
marked marks k = slice_index_or marks k false

-- how many marks are set
abbrev pub tally : List Bool → ℕ
tally marks = count_by (λ set. set) marks

-- of some numbers, those that a scheduler can hold
abbrev pub below_1024 : (ℕ → Bool) → ℕ → Bool
below_1024 some k = nat_lt k 1024 && some k
