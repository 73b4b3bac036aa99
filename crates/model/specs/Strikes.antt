-- What striking a row means.
use Rattle.std.specs.Prelude.{◌≡◌, ℕ, Bool, ◌↔◌, ◌≢◌}
use Rattle.model.specs.Domains.{Has}
use Rattle.model.specs.Rows.{Row, On}
use Rattle.model.specs.Boxes.{Box, Supported}
use Rattle.model.specs.declared.domain.Domain.{Domain}
use Rattle.model.specs.declared.domain.Domain.TheVariants.{Empty}
use Rattle.model.specs.declared.strike.Strike.{Strike}
use Rattle.model.specs.declared.strike.Strike.TheVariants.{Unchanged, Changed, Dead}

-- each flag of the row has exactly the values that had support, and every other flag is as before
pub record Struck (r : Row) (before after : Box) : Type 0 where
  pub kept : (f : ℕ) → On r f → (v : Bool) → Has (after f) v ↔ Supported r before f v
  pub rest : (f : ℕ) → (On r f → ⊥) → after f ≡ before f

-- a flag of the row is now empty
abbrev pub Emptied : Row → Box → Type 0
Emptied r after = (f : ℕ) × On r f × (after f ≡ Empty)

-- dead if a flag of the row is now empty, else changed when a value was removed, else unchanged
abbrev pub Says : Strike → Row → Box → Box → Type 0
Says Dead r before after = Emptied r after
Says Changed r before after = (Emptied r after → ⊥) × ((f : ℕ) × On r f × (after f ≢ before f))
Says Unchanged r before after = (Emptied r after → ⊥) × ((f : ℕ) → after f ≡ before f)

pub record Strikes (r : Row) (before after : Box) (answer : Strike) : Type 0 where
  pub left : Struck r before after
  pub says : Says answer r before after

-- what cutting a set down to a value did: nothing is left, or something, and as before or not
abbrev pub CutSays : Strike → Domain → Domain → Type 0
CutSays Dead before after = after ≡ Empty
CutSays Unchanged before after = (after ≢ Empty) × (after ≡ before)
CutSays Changed before after = (after ≢ Empty) × (after ≢ before)
