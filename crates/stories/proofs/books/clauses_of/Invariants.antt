use Rattle.std.proofs.Common.{◌≡◌, map, take}
use Rattle.clauses.specs.Books.{clauses_of}
use Rattle.stories.proofs.books.clauses_of.Given as goal

-- the book has the clauses so far
abbrev pub invariant-loop-clause : goal.invariant-loop-clause
invariant-loop-clause l = clauses_of l.book ≡ map (λ x. x.now) (take l.clause-index l.clauses)
