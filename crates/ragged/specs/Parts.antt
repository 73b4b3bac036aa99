-- Parts of one list, by the places where they end.
use Rattle.std.specs.Prelude.{ℕ, ◌+◌, ◌-◌, Bool, cond, ◌&&◌, List, [], ◌∷◌, length, ◌==◌, nat_le, slice_index}
use Rattle.std.specs.List.{between}

-- the parts of a list: the first begins at a place, and each other where the one before it ends
abbrev pub parts : {A : Type 0} → ℕ → List ℕ → List A → List (List A)
parts from [] items = []
parts from (end ∷ ends) items = between from end items ∷ parts end ends items

-- where a part begins: at the end before its own, and the first at 0
abbrev pub begins : List ℕ → ℕ → ℕ
begins ends number = cond (number == 0) 0 (slice_index ends (number - 1))

-- where the last part ends
abbrev pub last_end : ℕ → List ℕ → ℕ
last_end from [] = from
last_end from (end ∷ ends) = last_end end ends

-- the ends rise, and none is past the length
abbrev pub ascends : ℕ → List ℕ → ℕ → Bool
ascends from [] size = nat_le from size
ascends from (end ∷ ends) size = nat_le from end && ascends end ends size

-- how many items the lists have in all
abbrev pub total_length : {A : Type 0} → List (List A) → ℕ
total_length [] = 0
total_length (xs ∷ xss) = length xs + total_length xss
