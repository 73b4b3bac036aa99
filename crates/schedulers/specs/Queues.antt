-- The line of a queue: the waiting numbers, the one that has waited longest first.
use Rattle.std.specs.Prelude.{◌≡◌, ℕ, zero, suc, ◌<◌, ◌≤◌, Bool, true, false, cond, not, ◌&&◌, List, [], ◌∷◌, ◌++◌, length, Some, None, Option, nat_lt, slice_index}
use Rattle.model.specs.Refusals.{some_twice}
use Rattle.model.specs.Rows.{elem}
use Rattle.schedulers.specs.Marks.{below_1024, marked, tally}
use Rattle.schedulers.specs.Rings.{after}

-- the `count` numbers that stand in a circle from the place `start` on
abbrev pub line_of : List ℕ → ℕ → ℕ → List ℕ
line_of order start zero = []
line_of order start (suc count) = slice_index order start ∷ line_of order (after start) count

-- what holds of a queue as it stands in memory: the marks are of the numbers in its line, and none stands there twice
pub record Sound (order : List ℕ) (start len : ℕ) (waiting : List Bool) : Type 0 where
  pub places : length order ≡ 1024
  pub marks : length waiting ≡ 1024
  pub inside : start < 1024
  pub short : len ≤ 1024
  pub members : (k : ℕ) → marked waiting k ≡ elem k (line_of order start len)
  pub once : some_twice (line_of order start len) ≡ false
  pub count : tally waiting ≡ len

-- a line has no number twice, and none of 1,024 or more
pub record IsLine (line : List ℕ) : Type 0 where
  pub once : some_twice line ≡ false
  pub low : (k : ℕ) → elem k line ≡ true → k < 1024

-- the numbers that wait
abbrev pub in_line : List ℕ → ℕ → Bool
in_line line = below_1024 (λ k. elem k line)

-- a number below 1,024 that does not stand in the line yet goes to its end
abbrev pub joins : List ℕ → ℕ → List ℕ
joins line k = cond (nat_lt k 1024 && not (elem k line)) (line ++ (k ∷ [])) line

-- the first of the line is served, and the rest stays
abbrev pub serves : List ℕ → Option ℕ × List ℕ
serves [] = (None, [])
serves (k ∷ rest) = (Some k, rest)
