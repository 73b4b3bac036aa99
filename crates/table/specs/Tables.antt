-- The rows that a table means, and what adding one does.
use Rattle.std.specs.Prelude.{◌≡◌, ℕ, List, [], ◌∷◌, ◌++◌, map, Some, None, Ok, Err, vec_items, Option, Result}
use Rattle.model.specs.Rows.{Row}
use Rattle.model.specs.declared.refusal.AddRefusal.{AddRefusal}
use Rattle.table.specs.Relations.{row_of}
use Rattle.table.specs.declared.relation.Relation.{Relation}
use Rattle.table.specs.declared.table.Table.{Table}

abbrev pub rows_of : Table → List Row
rows_of t = map (λ r. row_of r.relation) (vec_items t.rows)

-- where there is no reason to refuse it, the row comes last; else the table is as before
abbrev pub Added : Option AddRefusal → Relation ℕ → Table → Table → Result (Unit {0}) AddRefusal → Type 0
Added None relation before after answer = (answer ≡ Ok tt) × (rows_of after ≡ rows_of before ++ row_of relation ∷ [])
Added (Some e) relation before after answer = (answer ≡ Err e) × (after ≡ before)
