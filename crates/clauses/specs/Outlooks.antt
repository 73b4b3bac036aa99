-- What the literals of a clause can still do in a box, and what a strike does then.
use Rattle.std.specs.Prelude.{◌≡◌, ℕ, Bool, false, cond, ◌||◌, List, [], ◌∷◌, Some, None, filter, Option}
use Rattle.model.specs.Boxes.{Box}
use Rattle.model.specs.Domains.{has, is_empty, cut_set}
use Rattle.model.specs.Facts.{cut}
use Rattle.model.specs.Rows.{elem}
use Rattle.model.specs.Strikes.{CutSays}
use Rattle.model.specs.declared.domain.Domain.{Domain}
use Rattle.model.specs.declared.domain.Domain.TheVariants.{Empty}
use Rattle.model.specs.declared.strike.Strike.{Strike}
use Rattle.model.specs.declared.strike.Strike.TheVariants as strike
use Rattle.clauses.specs.declared.clause.Outlook.{Outlook}
use Rattle.clauses.specs.declared.clause.Outlook.TheVariants.{Dead, Forced, Free}
use Rattle.clauses.specs.declared.literal.Literal.{Literal}

-- whether a literal can be true
abbrev pub can : Box → Literal ℕ → Bool
can b l = has (b l.flag) l.positive

-- the literals that can be true
abbrev pub possible : Box → List (Literal ℕ) → List (Literal ℕ)
possible b ls = filter (can b) ls

-- some flag has no value left
abbrev pub some_empty : Box → List (Literal ℕ) → Bool
some_empty b [] = false
some_empty b (l ∷ ls) = is_empty (b l.flag) || some_empty b ls

-- by how many literals can be true
abbrev pub by_number : List (Literal ℕ) → Outlook
by_number [] = Dead
by_number (l ∷ []) = Forced l
by_number (l ∷ (m ∷ ms)) = Free

-- what the literals can do: nothing where a flag has no value left
abbrev pub outlook_of : Box → List (Literal ℕ) → Outlook
outlook_of b ls = cond (some_empty b ls) Dead (by_number (possible b ls))

-- one literal more that can be true
abbrev pub one_more : Outlook → Literal ℕ → Outlook
one_more Dead l = Forced l
one_more (Forced m) l = Free
one_more Free l = Free

-- one literal more, whose flag has this set
abbrev pub looked : Domain → Outlook → Literal ℕ → Option Outlook
looked d seen l = cond (is_empty d) None (Some (cond (has d l.positive) (one_more seen l) seen))

-- a box in which some flags have no value left
abbrev pub emptied : List ℕ → Box → Box
emptied fs b f = cond (elem f fs) Empty (b f)

-- a literal was made true
pub record Forces (l : Literal ℕ) (before after : Box) (answer : Strike) : Type 0 where
  pub left : after ≡ cut before l.flag l.positive
  pub says : CutSays answer (before l.flag) (cut_set (before l.flag) l.positive)

-- what a strike does to the flags of a clause, by what its literals can do
abbrev pub Acts : Outlook → List ℕ → Box → Box → Strike → Type 0
Acts Dead fs before after answer = (after ≡ emptied fs before) × (answer ≡ strike.Dead)
Acts (Forced l) fs before after answer = Forces l before after answer
Acts Free fs before after answer = (after ≡ before) × (answer ≡ strike.Unchanged)
