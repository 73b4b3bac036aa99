-- The rows of the clauses are found by their number.
use Rattle.std.specs.Prelude.{◌≡◌, ℕ, ◌<◌, ◌≤◌, true, false, List, [], length, Some, None, Option, MatchOption, slice_index_or}
use Rattle.std.proofs.Common.{sym, ap, subst, ◌∙◌, arith}
use Rattle.std.specs.Borrow.{Bor}
use Rattle.std.proofs.lemmas.List.{get_or_past, take_all}
use Rattle.model.specs.Refusals.{some_twice}
use Rattle.model.specs.Rows.{no_row, nth_row, listed, row_at}
use Rattle.clauses.specs.Books.{clauses_of, rows_of}
use Rattle.clauses.specs.Literals.{flags_of, row_of}
use Rattle.clauses.specs.Proper.{has_literal, apart, sound_at, length-rows, nth}
use Rattle.clauses.specs.Refusals.{is_sound}
use Rattle.clauses.specs.declared.clauses.Clauses.{Clauses}
use Rattle.clauses.specs.declared.literal.Literal.{Literal}

module _ (c : Clauses) where
  -- every clause has a number
  all_listed : listed (rows_of c) ≡ rows_of c
  all_listed = let e = length-rows c in let few = c.few in take_all 65535 (rows_of c) (omega arith)

  pub length-listed : length (listed (rows_of c)) ≡ length (clauses_of c)
  length-listed = ap length all_listed ∙ length-rows c

  -- what reading a clause gives
  pub clause_got : (k : ℕ) (r : Option (Bor (List (Literal ℕ)))) → MatchOption r (length (clauses_of c) ≤ k) (λ s. (k < length (clauses_of c)) × (s.now ≡ slice_index_or (clauses_of c) k [])) → MatchOption r (row_at (rows_of c) k ≡ no_row) (λ s. (row_at (rows_of c) k ≡ row_of s.now) × (0 < length s.now) × (some_twice (flags_of s.now) ≡ false))
  clause_got k None h = ap (λ rows. nth_row rows k) all_listed ∙ get_or_past (rows_of c) k no_row (let e = length-rows c in omega arith)
  clause_got k (Some s) (h, e) =
      let sound : is_sound s.now ≡ true = subst (λ ls. is_sound ls ≡ true) (sym e) (sound_at (clauses_of c) c.sound k h) in
      (ap (λ rows. nth_row rows k) all_listed ∙ nth c k h ∙ ap row_of (sym e), has_literal s.now sound, apart s.now sound)
