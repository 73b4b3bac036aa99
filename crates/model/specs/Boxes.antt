-- Boxes, and which values of them a row supports.
use Rattle.std.specs.Prelude.{◌≡◌, ℕ, ◌<◌, Bool, cond, List, length, ◌==◌, ◌≢◌}
use Rattle.model.specs.Domains.{Has}
use Rattle.model.specs.Rows.{Valuation, Row, On, nth_row, Meets}
use Rattle.model.specs.declared.domain.Domain.{Domain}
use Rattle.model.specs.declared.domain.Domain.TheVariants.{Empty, Open}

-- a box gives each flag a set; rows have flags below 256 only
abbrev pub Box : Type 0
Box = ℕ → Domain

-- every flag is open
abbrev pub open_box : Box
open_box f = Open

-- a box with another set at a flag
abbrev pub with_set : Box → ℕ → Domain → Box
with_set b f d g = cond (g == f) d (b g)

-- a value v of a flag f has support from a row when some values that meet the row have v at f and lie in the box at the row's flags
pub record Supported (r : Row) (b : Box) (f : ℕ) (v : Bool) : Type 0 where
  pub values : Valuation
  pub here : values f ≡ v
  pub meets : Meets r values
  pub inside : (g : ℕ) → On r g → Has (b g) (values g)

-- a row supports each value of each of its flags
abbrev pub RowConsistent : Row → Box → Type 0
RowConsistent r b = (f : ℕ) → On r f → (v : Bool) → Has (b f) v → Supported r b f v

-- hyper-arc consistent: every row does
abbrev pub Consistent : List Row → Box → Type 0
Consistent rows b = (k : ℕ) → k < length rows → RowConsistent (nth_row rows k) b

-- a box is contained in another, flag by flag
abbrev pub ◌⊆◌ : Box → Box → Type 0
c ⊆ b = (f : ℕ) (v : Bool) → Has (c f) v → Has (b f) v

infix 40 ◌⊆◌
-- the largest consistent box inside a box
pub record Largest (rows : List Row) (top b : Box) : Type 0 where
  pub consistent : Consistent rows b
  pub within : b ⊆ top
  pub greatest : (c : Box) → Consistent rows c → c ⊆ top → c ⊆ b

-- a box is dead when some flag's set is empty
abbrev pub Dead : Box → Type 0
Dead b = (f : ℕ) × (b f ≡ Empty)

abbrev pub Alive : Box → Type 0
Alive b = (f : ℕ) → b f ≢ Empty
