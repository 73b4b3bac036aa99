-- The rows whose numbers a scheduler can hold.
use Rattle.std.proofs.Common.{◌≡◌, ℕ, ◌<◌, ◌≤◌, min, List, length, sym, ◌∙◌, subst, ⊎_elim, arith}
use Rattle.std.proofs.lemmas.List.{length-take, get_or-take, get_or_past}
use Rattle.std.proofs.lemmas.Bool.{cases_lt, false≢true}
use Rattle.model.specs.Rows.{Row, On, no_row, nth_row, row_at, listed, workable, Proper, AllProper}

pub few : (rows : List Row) → length (workable rows) ≤ 1024
few rows = let e : length (workable rows) ≡ min 1024 (length rows) = length-take 1024 rows in omega arith

-- below 1,024 they are the book's rows
pub row_work : (rows : List Row) (k : ℕ) → k < 1024 → row_at rows k ≡ nth_row (workable rows) k
row_work rows k l = get_or-take 65535 rows k no_row (omega arith) ∙ sym (get_or-take 1024 rows k no_row l)

pub work_proper : (rows : List Row) → AllProper rows → AllProper (workable rows)
work_proper rows fit k l =
    let e : length (workable rows) ≡ min 1024 (length rows) = length-take 1024 rows in
    subst Proper (sym (get_or-take 1024 rows k no_row (omega arith))) (fit k (omega arith))

-- a row that has a flag is there
pub row_there : (rows : List Row) (k f : ℕ) → On (nth_row rows k) f → k < length rows
row_there rows k f o = ⊎_elim
    (λ l. l)
    (λ g. absurd (false≢true (subst (λ r. On r f) (get_or_past rows k no_row g) o)))
    (cases_lt k (length rows))

-- a flag of a numbered row is below 256
pub flag_below : (rows : List Row) → AllProper rows → (row f : ℕ) → On (row_at rows row) f → f < 256
flag_below rows fit row f o =
    let l : row < length (listed rows) = row_there (listed rows) row f o in
    let e : length (listed rows) ≡ min 65535 (length rows) = length-take 65535 rows in
    (fit row (omega arith)).below f (subst (λ r. On r f) (get_or-take 65535 rows row no_row (omega arith)) o)
