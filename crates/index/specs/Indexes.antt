-- What an index holds, and when it is a book's.
use Rattle.std.specs.Prelude.{◌≡◌, ℕ, ◌<◌, Bool, true, List, [], filter, length, slice_index_or}
use Rattle.std.specs.List.{range_with_len}
use Rattle.ragged.specs.Lists.{lists_of}
use Rattle.model.specs.Rows.{Row, elem, on, On, AllProper, row_at, workable}
use Rattle.index.specs.declared.Index.{Index}

-- the rows that are listed at a flag
abbrev pub rows_with : Index → ℕ → List ℕ
rows_with i f = slice_index_or (lists_of i.rows) f []

-- the flags that are listed at a row
abbrev pub flags_in : Index → ℕ → List ℕ
flags_in i k = slice_index_or (lists_of i.flags) k []

-- the numbers below n that pass a test, rising
unfoldable pub those : (ℕ → Bool) → ℕ → List ℕ
those p n = filter p (range_with_len 0 n)

-- an index is that of a book when it lists, of the rows that can wait, at each flag those that have it, and at each row its flags
pub record Indexes (rows : List Row) (index : Index) : Type 0 where
  pub by_flag : (f : ℕ) → f < 256 → rows_with index f ≡ those (λ k. on (row_at rows k) f) (length (workable rows))
  pub by_row : (k : ℕ) → k < length (workable rows) → flags_in index k ≡ those (on (row_at rows k)) 256

-- every row that can wait is listed at each of its flags, and lists each of them; and nothing else is listed
pub record Finds (rows : List Row) (index : Index) : Type 0 where
  pub rows_found : (k f : ℕ) → k < length (workable rows) → On (row_at rows k) f → elem k (rows_with index f) ≡ true
  pub flags_found : (k f : ℕ) → k < length (workable rows) → On (row_at rows k) f → elem f (flags_in index k) ≡ true
  pub only_rows : (k f : ℕ) → f < 256 → elem k (rows_with index f) ≡ true → (k < length (workable rows)) × On (row_at rows k) f
  pub only_flags : (k f : ℕ) → k < length (workable rows) → elem f (flags_in index k) ≡ true → On (row_at rows k) f

abbrev pub IndexFinds : Type 0
IndexFinds = (rows : List Row) (index : Index) → AllProper rows → Indexes rows index → Finds rows index
