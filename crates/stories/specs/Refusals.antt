-- Why the rules or the clauses of a story make no book.
use Rattle.std.specs.Prelude.{◌≡◌, ℕ, List, map, take, Some, slice_get}
use Rattle.std.specs.Borrow.{Bor}
use Rattle.model.specs.declared.refusal.MakeRefusal.TheVariants.{Memory}
use Rattle.model.specs.Words.{add_said, make_said}
use Rattle.ragged.specs.Parts.{total_length}
use Rattle.clauses.specs.Refusals as of_clauses
use Rattle.clauses.specs.declared.literal.Literal.{Literal}
use Rattle.table.specs.Refusals as of_rules
use Rattle.table.specs.declared.relation.Relation.{Relation}
use Rattle.stories.specs.declared.books.BookRefusal.{BookRefusal}
use Rattle.stories.specs.declared.books.BookRefusal.TheVariants.{NotMade, NotAdded}

-- there was no memory, or one of the rules is refused where those before it are held
abbrev pub RulesRefused : List (Relation ℕ) → BookRefusal → Type 0
RulesRefused rules (NotMade e) = e ≡ Memory
RulesRefused rules (NotAdded e) = (i : ℕ) × (rule : Relation ℕ) × (slice_get rules i ≡ Some rule) × (of_rules.refusal i rule ≡ Some e)

-- the same of clauses
abbrev pub ClausesRefused : List (Bor (List (Literal ℕ))) → BookRefusal → Type 0
ClausesRefused clauses (NotMade e) = e ≡ Memory
ClausesRefused clauses (NotAdded e) =
    (i : ℕ) × (clause : Bor (List (Literal ℕ))) × (slice_get clauses i ≡ Some clause) × (of_clauses.refusal i (total_length (map (λ c. c.now) (take i clauses))) clause.now ≡ Some e)

-- a refusal is said in the words of the reason
abbrev pub book_said : BookRefusal → List ℕ
book_said (NotMade e) = make_said e
book_said (NotAdded e) = add_said e
