-- Why the rows of a joined book are proper.
use Rattle.std.specs.Prelude.{◌-◌, List, ◌++◌, length, refl}
use Rattle.std.proofs.Common.{inl, inr, arith}
use Rattle.std.proofs.lemmas.List.{length-append, get_or_append_left, get_or-append_right}
use Rattle.std.proofs.lemmas.Bool.{cases_lt}
use Rattle.model.specs.Rows.{Row, AllProper, no_row}

module _ (xs ys : List Row) where
  -- where the rows of both books are proper, all are
  pub all_proper : AllProper xs → AllProper ys → AllProper (xs ++ ys)
  all_proper p q k h =
      let l = length-append xs ys in
      elim (cases_lt k (length xs)) [
        | inl a ↦ rw (get_or_append_left xs ys no_row k a) (p k a)
        | inr a ↦ rw (get_or-append_right xs ys (length xs) k no_row refl a) (q (k - length xs) (omega arith))
      ]
