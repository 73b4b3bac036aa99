-- What a store of lists means.
use Rattle.std.specs.Prelude.{◌≡◌, ℕ, ◌+◌, ◌<◌, ◌≤◌, true, List, [], ◌∷◌, ◌++◌, length, drop, is_ok, vec_items, vec_capacity, Result, MatchResult}
use Rattle.ragged.specs.Parts.{parts, last_end, total_length}
use Rattle.ragged.specs.declared.store.Lists.{Lists}

-- the lists that are closed, in their order
unfoldable pub lists_of : {T : Type 0} → Lists T → List (List T)
lists_of s = parts 0 (vec_items s.ends) (vec_items s.items)

-- what was pushed since the last close
unfoldable pub open_of : {T : Type 0} → Lists T → List T
open_of s = drop (last_end 0 (vec_items s.ends)) (vec_items s.items)

-- for how many lists, and for how many items, there is memory
unfoldable pub list_room : {T : Type 0} → Lists T → ℕ
list_room s = vec_capacity s.ends

unfoldable pub item_room : {T : Type 0} → Lists T → ℕ
item_room s = vec_capacity s.items

-- the number of items, closed and open
abbrev pub item_count : {T : Type 0} → Lists T → ℕ
item_count s = total_length (lists_of s) + length (open_of s)

-- nothing is held, and there is memory for so many lists and items
pub record Roomy {T : Type 0} (lists items : ℕ) (s : Lists T) : Type 0 where
  pub none : lists_of s ≡ []
  pub nothing_open : open_of s ≡ []
  pub list_memory : lists ≤ list_room s
  pub item_memory : items ≤ item_room s

-- memory is never given back
pub record Roomier {T : Type 0} (before after : Lists T) : Type 0 where
  pub list_memory : list_room before ≤ list_room after
  pub item_memory : item_room before ≤ item_room after

-- the item stands last in the open list; without memory for it nothing changes
pub record Pushed {T E : Type 0} (item : T) (before after : Lists T) (answer : Result (Unit {0}) E) : Type 0 where
  pub lists : lists_of after ≡ lists_of before
  pub last : MatchResult answer (λ _. open_of after ≡ open_of before ++ item ∷ []) (λ _. open_of after ≡ open_of before)
  pub room : Roomier before after
  pub fits : item_count before < item_room before → is_ok answer ≡ true

-- the open list is closed: it stands last, and another is open; without memory for it nothing changes
pub record Closed {T E : Type 0} (before after : Lists T) (answer : Result (Unit {0}) E) : Type 0 where
  pub lists : MatchResult answer (λ _. lists_of after ≡ lists_of before ++ open_of before ∷ []) (λ _. lists_of after ≡ lists_of before)
  pub opened : MatchResult answer (λ _. open_of after ≡ []) (λ _. open_of after ≡ open_of before)
  pub room : Roomier before after
  pub fits : length (lists_of before) < list_room before → is_ok answer ≡ true
