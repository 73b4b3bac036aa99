-- The clauses that a book holds, the rows that they mean, and what adding one does.
use Rattle.std.specs.Prelude.{◌≡◌, ℕ, List, [], ◌∷◌, ◌++◌, map, Some, None, Ok, Err, Option, Result}
use Rattle.model.specs.Rows.{Row}
use Rattle.model.specs.declared.refusal.AddRefusal.{AddRefusal}
use Rattle.ragged.specs.Lists.{lists_of}
use Rattle.clauses.specs.Literals.{row_of}
use Rattle.clauses.specs.declared.clauses.Clauses.{Clauses}
use Rattle.clauses.specs.declared.literal.Literal.{Literal}

abbrev pub clauses_of : Clauses → List (List (Literal ℕ))
clauses_of c = lists_of c.lists

abbrev pub rows_of : Clauses → List Row
rows_of c = map row_of (clauses_of c)

-- where there is no reason to refuse it, the clause comes last; else the book is as before
abbrev pub Added : Option AddRefusal → List (Literal ℕ) → Clauses → Clauses → Result (Unit {0}) AddRefusal → Type 0
Added None clause before after answer = (answer ≡ Ok tt) × (clauses_of after ≡ clauses_of before ++ clause ∷ [])
Added (Some e) clause before after answer = (answer ≡ Err e) × (after ≡ before)
