-- Why a clause is not added.
use Rattle.std.specs.Prelude.{ℕ, ◌+◌, Bool, true, cond, not, ◌&&◌, ◌||◌, List, [], ◌∷◌, length, Some, None, Option, ◌==◌, nat_le, nat_lt}
use Rattle.model.specs.Refusals.{some_large, some_twice}
use Rattle.model.specs.declared.refusal.AddRefusal.{AddRefusal}
use Rattle.model.specs.declared.refusal.AddRefusal.TheVariants.{Flag, Twice, Full, NoLiteral}
use Rattle.clauses.specs.Literals.{flags_of}
use Rattle.clauses.specs.declared.literal.Literal.{Literal}

-- 512 clauses are held already, or the literals held and those of one clause more are more than 2,048
abbrev pub is_full : ℕ → ℕ → ℕ → Bool
is_full clauses literals more = nat_le 512 clauses || nat_lt 2048 (literals + more)

-- the refusal of a clause where so many clauses and literals are held, if any: each is looked for in the whole clause before the next
abbrev pub refusal : ℕ → ℕ → List (Literal ℕ) → Option AddRefusal
refusal clauses literals ls =
    cond (length ls == 0) (Some NoLiteral)
    (cond (some_large (flags_of ls)) (Some Flag)
    (cond (some_twice (flags_of ls)) (Some Twice)
    (cond (is_full clauses literals (length ls)) (Some Full) None)))

-- a clause that may be held: it has a literal, no flag above 255 and none twice
abbrev pub is_sound : List (Literal ℕ) → Bool
is_sound ls = not (length ls == 0) && (not (some_large (flags_of ls)) && not (some_twice (flags_of ls)))

abbrev pub all_sound : List (List (Literal ℕ)) → Bool
all_sound [] = true
all_sound (ls ∷ lss) = is_sound ls && all_sound lss
