-- Which of two books has the row of a number.
use Rattle.std.specs.Prelude.{ℕ, ◌-◌, cond, List, Some, None, Option, nat_lt}
use Rattle.model.specs.Rows.{Row, no_row, row_at}
use Rattle.joined.specs.declared.place.Place.{Place}
use Rattle.joined.specs.declared.place.Place.TheVariants.{First, Second}

-- the place of a row number, where the first book has that many rows with a number; none past the rows that have a number
abbrev pub place : ℕ → ℕ → Option Place
place row count = cond (nat_lt row count) (Some (First row)) (cond (nat_lt row 65535) (Some (Second (row - count))) None)

-- the row at a place of two books
abbrev pub row_in : List Row → List Row → Option Place → Row
row_in first second (Some (First k)) = row_at first k
row_in first second (Some (Second k)) = row_at second k
row_in first second None = no_row
