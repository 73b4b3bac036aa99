-- The rule of a clause, the unit rule: what a strike does to it, by which of its literals can be true; and which values meet it.
use Rattle.std.specs.Prelude.{◌≡◌, ℕ, ◌<◌, true, ◌⊎◌, ◌↔◌, List, [], ◌∷◌, length, ◌≢◌}
use Rattle.model.specs.Boxes.{Box}
use Rattle.model.specs.Domains.{only}
use Rattle.model.specs.Facts.{cut}
use Rattle.model.specs.Rows.{Valuation, On, Meets}
use Rattle.model.specs.Strikes.{Emptied, Strikes}
use Rattle.model.specs.declared.domain.Domain.TheVariants.{Empty}
use Rattle.model.specs.declared.strike.Strike.{Strike}
use Rattle.model.specs.declared.strike.Strike.TheVariants.{Unchanged, Changed, Dead}
use Rattle.clauses.specs.Literals.{row_of}
use Rattle.clauses.specs.Outlooks.{can}
use Rattle.clauses.specs.declared.literal.Literal.{Literal}

-- a literal stands in a clause
abbrev pub Among : Literal ℕ → List (Literal ℕ) → Type 0
Among l [] = ⊥
Among l (m ∷ ms) = (l ≡ m) ⊎ Among l ms

-- a literal stands in a clause and can be true
abbrev pub CanBeTrue : List (Literal ℕ) → Box → Literal ℕ → Type 0
CanBeTrue ls b l = Among l ls × (can b l ≡ true)

-- where a flag is empty or no literal can be true, the strike is dead and leaves every flag of the clause empty
abbrev pub ClauseDies : Type 0
ClauseDies = (ls : List (Literal ℕ)) (before after : Box) (answer : Strike) → 0 < length ls → Strikes (row_of ls) before after answer → Emptied (row_of ls) before ⊎ ((l : Literal ℕ) → CanBeTrue ls before l → ⊥) → (answer ≡ Dead) × ((f : ℕ) → On (row_of ls) f → after f ≡ Empty)

-- where no flag is empty and only one literal can be true, it is made true, and nothing else is altered; if it was true already, nothing is
abbrev pub ClauseForces : Type 0
ClauseForces = (ls : List (Literal ℕ)) (before after : Box) (answer : Strike) → Strikes (row_of ls) before after answer → (Emptied (row_of ls) before → ⊥) → (l : Literal ℕ) → CanBeTrue ls before l → ((m : Literal ℕ) → CanBeTrue ls before m → m ≡ l) → (after ≡ cut before l.flag l.positive) × (before l.flag ≡ only l.positive → answer ≡ Unchanged) × ((before l.flag ≢ only l.positive) → answer ≡ Changed)

-- where no flag is empty and two literals can be true, nothing is altered
abbrev pub ClauseRests : Type 0
ClauseRests = (ls : List (Literal ℕ)) (before after : Box) (answer : Strike) → Strikes (row_of ls) before after answer → (Emptied (row_of ls) before → ⊥) → (l m : Literal ℕ) → CanBeTrue ls before l → CanBeTrue ls before m → (l ≢ m) → (after ≡ before) × (answer ≡ Unchanged)

-- values meet a clause exactly when some literal of it is true
abbrev pub ClauseMet : Type 0
ClauseMet = (ls : List (Literal ℕ)) (s : Valuation) → Meets (row_of ls) s ↔ ((l : Literal ℕ) × Among l ls × (s l.flag ≡ l.positive))

pub record ClauseRule : Type 0 where
  pub dies : ClauseDies
  pub forces : ClauseForces
  pub rests : ClauseRests
  pub met : ClauseMet
