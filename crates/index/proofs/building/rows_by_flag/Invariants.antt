use Rattle.std.proofs.Common.{◌≡◌, [], map, length}
use Rattle.std.specs.List.{range_with_len}
use Rattle.ragged.specs.Lists.{lists_of, open_of}
use Rattle.model.specs.Rows.{on, row_at, workable}
use Rattle.index.specs.Indexes.{those}
use Rattle.index.proofs.building.rows_by_flag.Given as goal

-- the lists of the flags so far, and nothing open
abbrev pub invariant-loop-flag : goal.invariant-loop-flag
invariant-loop-flag g l =
    (lists_of l.lists ≡ map (λ f. those (λ k. on (row_at (g.B.Book.rows l.book) k) f) (length (workable (g.B.Book.rows l.book)))) (range_with_len 0 l.flag-counter))
    × (open_of l.lists ≡ [])
