-- What closing the open list of a store with some items does.
use Rattle.std.specs.Prelude.{◌≡◌, List, [], ◌∷◌, ◌++◌}
use Rattle.ragged.specs.Lists.{lists_of, open_of}
use Rattle.ragged.specs.declared.store.Lists.{Lists}

-- the open list is closed with the items at its end, and nothing is open
pub record ClosesWith {T : Type 0} (items : List T) (before after : Lists T) : Type 0 where
  pub closed : lists_of after ≡ lists_of before ++ (open_of before ++ items) ∷ []
  pub opened : open_of after ≡ []
