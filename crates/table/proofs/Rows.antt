-- The rows of a table: they are found by their number, and one more comes last.
use Rattle.std.specs.Prelude.{◌≡◌, ℕ, zero, suc, ◌<◌, ◌≤◌, List, [], ◌∷◌, ◌++◌, map, length, Some, None, Ok, Err, vec_items, vec_len, Option, MatchOption, slice_index_or, refl}
use Rattle.std.proofs.Common.{sym, ap, subst, ◌∙◌, le_of_suc-le-suc, not-suc-le-zero, arith}
use Rattle.std.specs.Borrow.{Bor}
use Rattle.std.proofs.lemmas.List.{take_all, get_or_past, map-append, length-map}
use Rattle.std.specs.Slice.{IsGetResult}
use Rattle.model.specs.Rows.{no_row, nth_row, listed, row_at}
use Rattle.model.specs.declared.refusal.AddRefusal.{AddRefusal}
use Rattle.table.specs.Proper.{meant}
use Rattle.table.specs.Refusals.{refusal}
use Rattle.table.specs.Relations.{row_of}
use Rattle.table.specs.Tables.{rows_of, Added}
use Rattle.table.specs.declared.relation.Relation.{Relation}
use Rattle.table.specs.declared.table.Table.{Table}
use Rattle.table.specs.declared.table.TableRow.{TableRow}

nth-map : (rows : List TableRow) (k : ℕ) (row : TableRow) → k < length rows → row ≡ slice_index_or rows k row → nth_row (map meant rows) k ≡ meant row
nth-map [] k row h e = absurd (not-suc-le-zero h)
nth-map (r ∷ rs) zero row h e = ap meant (sym e)
nth-map (r ∷ rs) (suc k) row h e = nth-map rs k row (le_of_suc-le-suc h) e

pub length-rows : (t : Table) → length (rows_of t) ≡ vec_len t.rows
length-rows t = length-map (vec_items t.rows) meant ∙ sym t.rows.ok.0

-- every row of a table has a number
pub all_listed : (t : Table) → listed (rows_of t) ≡ rows_of t
all_listed t = let e = length-rows t in let few = t.few in take_all 65535 (rows_of t) (omega arith)

row_here : (t : Table) (k : ℕ) (row : TableRow) → k < length (vec_items t.rows) → row ≡ slice_index_or (vec_items t.rows) k row → row_at (rows_of t) k ≡ row_of row.relation
row_here t k row h e = ap (λ rows. nth_row rows k) (all_listed t) ∙ nth-map (vec_items t.rows) k row h e

row_past : (t : Table) (k : ℕ) → length (vec_items t.rows) ≤ k → row_at (rows_of t) k ≡ no_row
row_past t k h =
    ap (λ rows. nth_row rows k) (all_listed t) ∙ get_or_past (rows_of t) k no_row (let e = length-map (vec_items t.rows) meant in omega arith)

-- what reading a place of the list gives
pub row_got : (t : Table) (k : ℕ) (r : Option (Bor TableRow)) → IsGetResult (vec_items t.rows) k k r → MatchOption r (row_at (rows_of t) k ≡ no_row) (λ x. row_at (rows_of t) k ≡ row_of x.now.relation)
row_got t k None i = row_past t k i.3
row_got t k (Some x) i = row_here t k x.now i.3.0 i.1

-- as many as it holds
pub listed_count : (t : Table) → vec_len t.rows ≡ length (listed (rows_of t))
listed_count t = sym (ap length (all_listed t) ∙ length-rows t)

-- adding, by the refusal that the table's own count gives
abbrev Why : Table → Relation ℕ → Option AddRefusal
Why t r = refusal (length (rows_of t)) r

counted : (t : Table) (r : Relation ℕ) (n : ℕ) → n ≡ vec_len t.rows → Why t r ≡ refusal n r
counted t r n e = ap (λ k. refusal k r) (length-rows t ∙ sym e)

pub refused : (t : Table) (r : Relation ℕ) (n : ℕ) (e : AddRefusal) → n ≡ vec_len t.rows → refusal n r ≡ Some e → Added (Why t r) r t t (Err e)
refused t r n e c h = subst (λ o. Added o r t t (Err e)) (sym (counted t r n c ∙ h)) (refl, refl)

pub taken : (t u : Table) (r : Relation ℕ) (n : ℕ) (row : TableRow) → n ≡ vec_len t.rows → refusal n r ≡ None → row.relation ≡ r → vec_items u.rows ≡ vec_items t.rows ++ row ∷ [] → Added (Why t r) r t u (Ok tt)
taken t u r n row c h e i =
    subst (λ o. Added o r t u (Ok tt)) (sym (counted t r n c ∙ h))
    (refl, ap (map meant) i ∙ map-append meant (vec_items t.rows) (row ∷ []) ∙ ap (λ x. rows_of t ++ row_of x ∷ []) e)
