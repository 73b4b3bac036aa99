-- A clause that was refused after those before it.
use Rattle.std.specs.Borrow.{Bor}
use Rattle.std.proofs.Common.{◌≡◌, ℕ, ◌<◌, List, map, length, get_or, take, Some, None, Err, Option, ap, ◌∙◌, arith, sym}
use Rattle.std.proofs.lemmas.List.{length-take-le, length-map}
use Rattle.std.proofs.lemmas.Option.{slice_get-get_or}
use Rattle.model.specs.declared.refusal.AddRefusal.{AddRefusal}
use Rattle.ragged.specs.Parts.{total_length}
use Rattle.clauses.specs.Books as books
use Rattle.clauses.specs.Books.{clauses_of}
use Rattle.clauses.specs.Refusals.{refusal}
use Rattle.clauses.specs.declared.clauses.Clauses.{Clauses}
use Rattle.clauses.specs.declared.literal.Literal.{Literal}
use Rattle.stories.specs.Refusals.{ClausesRefused}
use Rattle.stories.specs.declared.books.BookRefusal.TheVariants.{NotAdded}

refused : (o : Option AddRefusal) (clause : List (Literal ℕ)) (before after : Clauses) (e : AddRefusal) → books.Added o clause before after (Err e) → o ≡ Some e
refused None clause before after e a = absurd (cc a.0)
refused (Some r) clause before after e a = cc a.0

module _ (clauses : List (Bor (List (Literal ℕ)))) (i : ℕ) (d : Bor (List (Literal ℕ))) (before after : Clauses) (e : AddRefusal) (l : i < length clauses) where
  pub clause_refused : clauses_of before ≡ map (λ c. c.now) (take i clauses) → books.Added (refusal (length (clauses_of before)) (total_length (clauses_of before)) (get_or clauses i d).now) (get_or clauses i d).now before after (Err e) → ClausesRefused clauses (NotAdded e)
  clause_refused so_far a =
      let clause = get_or clauses i d in
      let n : length (clauses_of before) ≡ i = ap length so_far ∙ length-map (take i clauses) (λ c. c.now) ∙ length-take-le i clauses (omega arith) in
      let literals = ap total_length so_far in
      (i, clause, slice_get-get_or clauses i d l, sym (ap (λ k. refusal k (total_length (map (λ c. c.now) (take i clauses))) clause.now) n) ∙ sym (ap (λ m. refusal (length (clauses_of before)) m clause.now) literals) ∙ refused _ clause.now before after e a)
