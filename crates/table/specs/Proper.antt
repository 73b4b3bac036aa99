-- Why the rows of a table are proper.
use Rattle.std.specs.Prelude.{ℕ, zero, suc, ◌<◌, List, [], ◌∷◌, map, length, vec_items}
use Rattle.std.proofs.Common.{le_of_suc-le-suc, not-suc-le-zero, lit<}
use Rattle.model.specs.Rows.{Row, Proper, AllProper}
use Rattle.model.proofs.Members.{distinct, below}
use Rattle.table.specs.Relations.{flags_of, row_of}
use Rattle.table.specs.Tables.{rows_of}
use Rattle.table.specs.declared.relation.Relation.{Relation}
use Rattle.table.specs.declared.relation.Relation.TheVariants.{Equal}
use Rattle.table.specs.declared.table.Table.{Table}
use Rattle.table.specs.declared.table.TableRow.{TableRow}

-- the row that a held relation means
abbrev pub meant : TableRow → Row
meant row = row_of row.relation

some : (r : Relation ℕ) → 0 < length (flags_of r)
some (Equal x y) = lit< tt
some r = lit< tt

row_proper : (row : TableRow) → Proper (meant row)
row_proper row = record {
  some = some row.relation;
  different = distinct (flags_of row.relation) row.different;
  below = below (flags_of row.relation) row.small;
}

all_proper : (rows : List TableRow) → AllProper (map meant rows)
all_proper [] k h = absurd (not-suc-le-zero h)
all_proper (row ∷ rows) zero h = row_proper row
all_proper (row ∷ rows) (suc k) h = all_proper rows k (le_of_suc-le-suc h)

pub proper : (t : Table) → AllProper (rows_of t)
proper t = all_proper (vec_items t.rows)
