-- Why the rows of the clauses are proper.
use Rattle.std.specs.Prelude.{◌≡◌, ℕ, zero, suc, ◌<◌, true, false, not, List, [], ◌∷◌, length, ◌==◌, slice_index_or}
use Rattle.std.proofs.Common.{sym, subst, le_of_suc-le-suc, not-suc-le-zero, arith}
use Rattle.std.proofs.lemmas.List.{get_or-map, length-map}
use Rattle.std.proofs.lemmas.Bool.{and_parts, eqb-false, not-true}
use Rattle.model.specs.Refusals.{some_large, some_twice}
use Rattle.model.specs.Rows.{Proper, AllProper, no_row, nth_row}
use Rattle.model.proofs.Members.{distinct, below}
use Rattle.clauses.specs.Books.{clauses_of, rows_of}
use Rattle.clauses.specs.Literals.{flag_of, flags_of, row_of}
use Rattle.clauses.specs.Refusals.{is_sound, all_sound}
use Rattle.clauses.specs.declared.clauses.Clauses.{Clauses}
use Rattle.clauses.specs.declared.literal.Literal.{Literal}

module _ (ls : List (Literal ℕ)) (sound : is_sound ls ≡ true) where
  parts : (not (length ls == 0) ≡ true) × (not (some_large (flags_of ls)) ≡ true) × (not (some_twice (flags_of ls)) ≡ true)
  parts =
      let p = and_parts (not (length ls == 0)) _ sound in
      let q = and_parts (not (some_large (flags_of ls))) (not (some_twice (flags_of ls))) p.1 in
      (p.0, q.0, q.1)

  pub has_literal : 0 < length ls
  has_literal = let n : length ls ≡ 0 → ⊥ = eqb-false (length ls) 0 (not-true (length ls == 0) parts.0) in omega (arith, n)

  pub apart : some_twice (flags_of ls) ≡ false
  apart = not-true (some_twice (flags_of ls)) parts.2

  row_proper : Proper (row_of ls)
  row_proper = record {
    some = let h = has_literal in let e = length-map ls flag_of in omega arith;
    different = distinct (flags_of ls) apart;
    below = below (flags_of ls) (not-true (some_large (flags_of ls)) parts.1);
  }

pub sound_at : (lss : List (List (Literal ℕ))) → all_sound lss ≡ true → (k : ℕ) → k < length lss → is_sound (slice_index_or lss k []) ≡ true
sound_at [] s k h = absurd (not-suc-le-zero h)
sound_at (ls ∷ lss) s zero h = (and_parts (is_sound ls) (all_sound lss) s).0
sound_at (ls ∷ lss) s (suc k) h = sound_at lss (and_parts (is_sound ls) (all_sound lss) s).1 k (le_of_suc-le-suc h)

module _ (c : Clauses) where
  pub length-rows : length (rows_of c) ≡ length (clauses_of c)
  length-rows = length-map (clauses_of c) row_of

  pub nth : (k : ℕ) → k < length (clauses_of c) → nth_row (rows_of c) k ≡ row_of (slice_index_or (clauses_of c) k [])
  nth k h = get_or-map row_of (clauses_of c) k [] no_row h

  pub proper : AllProper (rows_of c)
  proper k h =
      let l : k < length (clauses_of c) = let e = length-rows in omega arith in
      subst Proper (sym (nth k l)) (row_proper (slice_index_or (clauses_of c) k []) (sound_at (clauses_of c) c.sound k l))
