-- Rows by their number in two lists of rows joined.
use Rattle.std.specs.Prelude.{◌≡◌, ℕ, ◌+◌, ◌-◌, ◌<◌, ◌≤◌, min, cond, List, ◌++◌, length, Some, None, Option, nat_lt}
use Rattle.std.proofs.Common.{sym, ap, ◌∙◌, inl, inr, arith}
use Rattle.std.proofs.lemmas.List.{length-take, length-append, get_or-take, get_or_past, get_or_append_left, get_or-append_right}
use Rattle.std.proofs.lemmas.Bool.{cases_lt, cond-true, cond-false, lt-ltb, le-ltb}
use Rattle.model.specs.Rows.{Row, no_row, listed, row_at}
use Rattle.joined.specs.Places.{place, row_in}
use Rattle.joined.specs.declared.place.Place.{Place}
use Rattle.joined.specs.declared.place.Place.TheVariants.{First, Second}

module _ (xs ys : List Row) where
  -- the rows that have a number are those of both books, up to 65,535
  counted : length (listed (xs ++ ys)) ≡ min (length (listed xs) + length (listed ys)) 65535
  counted = simp (length-take, length-append) (omega arith)

  pub count_joined : (m n r : ℕ) → m ≡ length (listed xs) → n ≡ length (listed ys) → r ≡ min (m + n) 65535 → r ≡ length (listed (xs ++ ys))
  count_joined m n r p q e = let c = counted in cc

  module _ (row count : ℕ) (e : count ≡ length (listed xs)) where
    in_first : row < count → row_at (xs ++ ys) row ≡ row_at xs row
    in_first h =
        let l : length (listed xs) ≡ min 65535 (length xs) = length-take 65535 xs in
        let a : row < 65535 = omega arith in
        get_or-take 65535 (xs ++ ys) row no_row a
        ∙ get_or_append_left xs ys no_row row (omega arith)
        ∙ sym (get_or-take 65535 xs row no_row a)

    in_second : count ≤ row → row < 65535 → row_at (xs ++ ys) row ≡ row_at ys (row - count)
    in_second h a =
        let l : length (listed xs) ≡ min 65535 (length xs) = length-take 65535 xs in
        get_or-take 65535 (xs ++ ys) row no_row a
        ∙ get_or-append_right xs ys count row no_row (omega arith) h
        ∙ sym (get_or-take 65535 ys (row - count) no_row (omega arith))

    past : 65535 ≤ row → row_at (xs ++ ys) row ≡ no_row
    past h = let l = length-take 65535 (xs ++ ys) in get_or_past (listed (xs ++ ys)) row no_row (omega arith)

    -- the row of a number is the one at its place
    at_place : row_at (xs ++ ys) row ≡ row_in xs ys (place row count)
    at_place =
        elim (cases_lt row count) [
          | inl h ↦ in_first h ∙ ap (row_in xs ys) (sym (cond-true (nat_lt row count) _ _ (lt-ltb row count h)))
          | inr h ↦ (let b = cond-false (nat_lt row count) (Some (First row)) (cond (nat_lt row 65535) (Some (Second (row - count))) None) (le-ltb row count h) in
              elim (cases_lt row 65535) [
                | inl a ↦ in_second h a ∙ ap (row_in xs ys) (sym (b ∙ cond-true (nat_lt row 65535) _ _ (lt-ltb row 65535 a)))
                | inr a ↦ past a ∙ ap (row_in xs ys) (sym (b ∙ cond-false (nat_lt row 65535) _ _ (le-ltb row 65535 a)))
              ])
        ]

    pub located : (p : Option Place) → p ≡ place row count → row_at (xs ++ ys) row ≡ row_in xs ys p
    located p q = at_place ∙ ap (row_in xs ys) (sym q)
