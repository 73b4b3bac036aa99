-- States of n flags.
use Rattle.std.specs.Prelude.{◌≡◌, ℕ, ◌+◌, ◌*◌, ◌^◌, ◌<◌, Bool, true, false, cond, not, List, [], ◌∷◌, length, slice_index_or}
use Rattle.model.specs.Domains.{Has, only}
use Rattle.model.specs.Rows.{Valuation, Row, MeetsAll}
use Rattle.model.specs.Boxes.{Box}
use Rattle.model.specs.Facts.{Facts}

-- a state of n flags is a list of n values, that of flag 0 first
abbrev pub State : Type 0
State = List Bool

abbrev pub value : State → Valuation
value s f = slice_index_or s f false

-- a state as a binary numeral whose leading digit is flag 0; states are compared by it
abbrev pub numeral : State → ℕ
numeral [] = 0
numeral (v ∷ vs) = cond v 1 0 * 2 ^ length vs + numeral vs

-- values of n flags lie in a box
abbrev pub Lies : ℕ → Valuation → Box → Type 0
Lies n s b = (f : ℕ) → f < n → Has (b f) (s f)

-- each fact's flag has the fact's value
abbrev pub Agrees : Facts → State → Type 0
Agrees held s = (f : ℕ) (v : Bool) → held f v ≡ true → slice_index_or s f (not v) ≡ v

-- a state is allowed when it has n flags, agrees with the facts held and meets every row
pub record Allowed (rows : List Row) (n : ℕ) (held : Facts) (s : State) : Type 0 where
  pub size : length s ≡ n
  pub agrees : Agrees held s
  pub met : MeetsAll rows (value s)

-- a box that has one value for each flag below n spells a state
pub record Spells (n : ℕ) (b : Box) (s : State) : Type 0 where
  pub size : length s ≡ n
  pub only_value : (f : ℕ) → f < n → b f ≡ only (value s f)
