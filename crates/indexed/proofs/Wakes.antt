-- Marks of waiting numbers, as rows are woken one after another.
use Rattle.std.proofs.Common.{◌≡◌, ℕ, ◌+◌, ◌<◌, Bool, true, ◌||◌, eqb, List, [], ◌∷◌, ◌++◌, length, get_or, take, Option, refl, ap, ◌∙◌, arith}
use Rattle.std.proofs.lemmas.List.{take_more}
use Rattle.std.proofs.lemmas.Bool.Decides.{nat_tests}
use Rattle.std.specs.List.{list_any}
use Rattle.std.proofs.lemmas.Bool.{false≢true}
use Rattle.model.specs.Rows.{elem}
use Rattle.model.specs.Boxes.{Box, with_set}
use Rattle.model.specs.declared.domain.Domain.{Domain}
use Rattle.model.specs.declared.domain.Domain.TheVariants.{Empty, Zero, One, Open}
use Rattle.indexed.specs.Waking.{woken, differ, CaughtUp}

elem_push : (k : ℕ) (xs : List ℕ) (x : ℕ) → elem k (xs ++ x ∷ []) ≡ (elem k xs || eqb k x)
elem_push k [] x = grind (arith, nat_tests)
elem_push k (y ∷ ys) x = grind (arith, nat_tests, elem_push k ys x)

-- one more number of a list is a member
elem_more : (k : ℕ) (xs : List ℕ) (i : ℕ) → i < length xs → elem k (take (i + 1) xs) ≡ (elem k (take i xs) || eqb k (get_or xs i 0))
elem_more k xs i l = ap (elem k) (take_more xs i 0 l) ∙ elem_push k (take i xs) (get_or xs i 0)

-- one row more of a list
pub each_more : (but : Option ℕ) (rows : List ℕ) (i : ℕ) (k : ℕ) (w : Bool) → i < length rows
    → (woken but (get_or rows i 0 ∷ []) k || (woken but (take i rows) k || w)) ≡ (woken but (take (i + 1) rows) k || w)
each_more but rows i k w l = grind (arith, nat_tests, elem_more k rows i l)

-- one flag more is copied
pub caught_more : (new before now after : Box) (flags : List ℕ) (i : ℕ) → i < length flags → CaughtUp (take i flags) new before now → after ≡ with_set now (get_or flags i 0) (new (get_or flags i 0)) → CaughtUp (take (i + 1) flags) new before after
caught_more new before now after flags i l so_far e f = grind (arith, nat_tests, elem_more f flags i l, so_far f, ap (λ b. b f) e)

-- a member that passes is some
pub some_found : (p : ℕ → Bool) (xs : List ℕ) (f : ℕ) → elem f xs ≡ true → p f ≡ true → list_any p xs ≡ true
some_found p [] f i h = absurd (false≢true i)
some_found p (x ∷ xs) f i h = grind (arith, nat_tests, some_found p xs f)

-- sets that are not the same differ
pub differ_true : (d e : Domain) → (d ≡ e → ⊥) → differ d e ≡ true
differ_true Empty Empty n = absurd (n refl)
differ_true Empty Zero n = refl
differ_true Empty One n = refl
differ_true Empty Open n = refl
differ_true Zero Empty n = refl
differ_true Zero Zero n = absurd (n refl)
differ_true Zero One n = refl
differ_true Zero Open n = refl
differ_true One Empty n = refl
differ_true One Zero n = refl
differ_true One One n = absurd (n refl)
differ_true One Open n = refl
differ_true Open Empty n = refl
differ_true Open Zero n = refl
differ_true Open One n = refl
differ_true Open Open n = absurd (n refl)
