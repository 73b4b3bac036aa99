-- Putting a clause into a store of literals.
use Rattle.std.specs.Prelude.{◌≡◌, ℕ, ◌+◌, ◌<◌, ◌≤◌, false, cond, List, [], ◌∷◌, ◌++◌, length, Result, MatchResult, nat_lt}
use Rattle.model.specs.Refusals.{some_large}
use Rattle.model.specs.declared.refusal.AddRefusal.{AddRefusal}
use Rattle.model.specs.declared.refusal.AddRefusal.TheVariants.{Flag, Full}
use Rattle.ragged.specs.Lists.{lists_of, open_of, list_room, item_room, item_count, Roomier}
use Rattle.ragged.specs.declared.store.Lists.{Lists}
use Rattle.clauses.specs.Literals.{flags_of}
use Rattle.clauses.specs.declared.literal.Literal.{Literal}

-- one literal more in the open list, unless its flag is above 255 or there is no memory for it
pub record Pushes (l : Literal ℕ) (before after : Lists (Literal ℕ)) (answer : Result (Unit {0}) AddRefusal) : Type 0 where
  pub lists : lists_of after ≡ lists_of before
  pub room : Roomier before after
  pub last : MatchResult answer
      (λ _. open_of after ≡ open_of before ++ l ∷ [])
      (λ _. nat_lt 255 l.flag ≡ false → item_count before < item_room before → ⊥)
  -- which of the two it was
  pub why : MatchResult answer (λ _. nat_lt 255 l.flag ≡ false) (λ e. e ≡ cond (nat_lt 255 l.flag) Flag Full)

-- the same for all literals of a clause
pub record PushesAll (ls : List (Literal ℕ)) (before after : Lists (Literal ℕ)) (answer : Result (Unit {0}) AddRefusal) : Type 0 where
  pub lists : lists_of after ≡ lists_of before
  pub room : Roomier before after
  pub last : MatchResult answer
      (λ _. open_of after ≡ open_of before ++ ls)
      (λ _. some_large (flags_of ls) ≡ false → item_count before + length ls ≤ item_room before → ⊥)

-- a clause stands after the others, unless a flag of it is above 255 or there is no memory for it
pub record Puts (ls : List (Literal ℕ)) (before after : Lists (Literal ℕ)) (answer : Result (Unit {0}) AddRefusal) : Type 0 where
  pub room : Roomier before after
  pub last : MatchResult answer
      (λ _. (lists_of after ≡ lists_of before ++ (open_of before ++ ls) ∷ []) × (open_of after ≡ []))
      (λ _. some_large (flags_of ls) ≡ false → item_count before + length ls ≤ item_room before → length (lists_of before) < list_room before → ⊥)
