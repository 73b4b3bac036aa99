use Rattle.std.proofs.Common.{◌≡◌, [], map}
use Rattle.std.specs.List.{range_with_len}
use Rattle.ragged.specs.Lists.{lists_of, open_of}
use Rattle.model.specs.Rows.{on, row_at}
use Rattle.index.specs.Indexes.{those}
use Rattle.index.proofs.building.flags_by_row.Given as goal

-- the lists of the rows so far, and nothing open
abbrev pub invariant-loop-row : goal.invariant-loop-row
invariant-loop-row g l =
    (lists_of l.lists ≡ map (λ k. those (on (row_at (g.B.Book.rows l.book) k)) 256) (range_with_len 0 l.row-counter)) × (open_of l.lists ≡ [])
