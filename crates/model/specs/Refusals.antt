-- Reasons to refuse the flags of a row that is added to a book.
use Rattle.std.specs.Prelude.{ℕ, Bool, false, ◌||◌, List, [], ◌∷◌, nat_lt}
use Rattle.model.specs.Rows.{elem}

-- some flag is above 255
abbrev pub some_large : List ℕ → Bool
some_large [] = false
some_large (f ∷ fs) = nat_lt 255 f || some_large fs

-- some flag stands there twice
abbrev pub some_twice : List ℕ → Bool
some_twice [] = false
some_twice (f ∷ fs) = elem f fs || some_twice fs
