-- The laws of boxes, as statements.
use Rattle.std.specs.Prelude.{◌≡◌, ℕ, ◌<◌, ◌≤◌, Bool, true, false, ◌⊎◌, ◌↔◌, List, [], ◌∷◌, length}
use Rattle.model.specs.Domains.{Has}
use Rattle.model.specs.Rows.{Valuation, Row, On, Proper, AllProper, listed, row_at, MeetsAll, FlagsBelow, Covers}
use Rattle.model.specs.Boxes.{Box, Supported, Consistent, ◌⊆◌, Largest}
use Rattle.model.specs.Facts.{Facts, told, LargestUnder, facts_box, cut}
use Rattle.model.specs.States.{State, value, numeral, Lies, Allowed, Spells}
use Rattle.model.specs.Strikes.{Strikes}
use Rattle.model.specs.declared.strike.Strike.{Strike}
use Rattle.model.specs.declared.strike.Strike.TheVariants.{Unchanged}

-- inside any box there is a largest consistent one
abbrev pub LargestExists : Type 0
LargestExists = (rows : List Row) → AllProper rows → (top : Box) → (b : Box) × Largest rows top b

-- and only one
abbrev pub LargestUnique : Type 0
LargestUnique = (rows : List Row) (top a b : Box) → Largest rows top a → Largest rows top b → a ≡ b

-- fewer values above mean fewer below
abbrev pub LargestFewer : Type 0
LargestFewer = (rows : List Row) (small large a b : Box) → small ⊆ large → Largest rows small a → Largest rows large b → a ⊆ b

-- the largest box under some facts is the largest one inside the box of the values that no fact rules out
abbrev pub LargestFrom : Type 0
LargestFrom = (rows : List Row) (held : Facts) (b : Box) → LargestUnder rows held b ↔ Largest rows (facts_box held) b

-- so under any facts there is one, and only one
abbrev pub FactsLargest : Type 0
FactsLargest = (rows : List Row) → AllProper rows → (held : Facts) → ((b : Box) × LargestUnder rows held b) × ((a b : Box) → LargestUnder rows held a → LargestUnder rows held b → a ≡ b)

-- more facts leave fewer values
abbrev pub FactsFewer : Type 0
FactsFewer = (rows : List Row) (held more : Facts) (b d : Box) → ((f : ℕ) (v : Bool) → held f v ≡ true → more f v ≡ true) → LargestUnder rows held b → LargestUnder rows more d → d ⊆ b

-- the largest box under one fact more is the largest inside the former one cut to that fact
abbrev pub LargestTold : Type 0
LargestTold = (rows : List Row) (held : Facts) (f : ℕ) (v : Bool) (b d : Box) → LargestUnder rows held b → LargestUnder rows (told held f v) d ↔ Largest rows (cut b f v) d

-- values that meet all rows and lie in a box lie in its largest consistent box
abbrev pub StatesKept : Type 0
StatesKept = (rows : List Row) (n : ℕ) (top b : Box) (s : Valuation) → FlagsBelow rows n → MeetsAll rows s → Lies n s top → Largest rows top b → Lies n s b

-- so an allowed state lies in the largest box under the facts
abbrev pub AllowedKept : Type 0
AllowedKept = (rows : List Row) (n : ℕ) (held : Facts) (b : Box) (s : State) → FlagsBelow rows n → Allowed rows n held s → LargestUnder rows held b → Lies n (value s) b

-- a consistent box with one value for each flag below n is a state that meets all rows
abbrev pub SinglesMeet : Type 0
SinglesMeet = (rows : List Row) (n : ℕ) (b : Box) (s : State) → AllProper rows → FlagsBelow rows n → Consistent rows b → Spells n b s → MeetsAll rows (value s)

-- the order of rows, and how often each stands there, does not matter
abbrev pub OrderFree : Type 0
OrderFree = (rows others : List Row) → Covers rows others → Covers others rows → ((top b : Box) → Largest rows top b ↔ Largest others top b) × ((s : Valuation) → MeetsAll rows s ↔ MeetsAll others s)

-- what a strike leaves and answers is fixed, for every row and box
abbrev pub StrikeFixed : Type 0
StrikeFixed = (r : Row) (before : Box) → ((a b : Box) (x y : Strike) → Strikes r before a x → Strikes r before b y → (a ≡ b) × (x ≡ y)) × ((a : Box) × (x : Strike) × Strikes r before a x)

-- past the rows a strike alters nothing
abbrev pub StrikePast : Type 0
StrikePast = (rows : List Row) (k : ℕ) (before after : Box) (x : Strike) → length (listed rows) ≤ k → Strikes (row_at rows k) before after x → (x ≡ Unchanged) × (after ≡ before)

-- a tuple takes its values, one for each flag, from a box
abbrev pub Takes : Box → List ℕ → List Bool → Type 0
Takes b [] [] = Unit {0}
Takes b [] (v ∷ vs) = ⊥
Takes b (f ∷ fs) [] = ⊥
Takes b (f ∷ fs) (v ∷ vs) = Has (b f) v × Takes b fs vs

-- a tuple has a value at a flag
abbrev pub Gives : ℕ → Bool → List ℕ → List Bool → Type 0
Gives f v [] vs = ⊥
Gives f v (g ∷ gs) [] = ⊥
Gives f v (g ∷ gs) (w ∷ ws) = ((f ≡ g) × (v ≡ w)) ⊎ Gives f v gs ws

-- support is an allowed tuple that has the value at the flag and takes its values from the box
abbrev pub SupportByTuple : Type 0
SupportByTuple = (r : Row) (b : Box) (f : ℕ) (v : Bool) → Proper r → On r f → Supported r b f v ↔ ((t : List Bool) × (r.allows t ≡ true) × Takes b r.flags t × Gives f v r.flags t)

-- of two states the first flag at which they differ decides: the one that has 0 there is less
pub record Before (s t : State) : Type 0 where
  pub flag : ℕ
  pub same : (f : ℕ) → f < flag → value s f ≡ value t f
  pub zero : value s flag ≡ false
  pub one : value t flag ≡ true

abbrev pub NumeralsCompare : Type 0
NumeralsCompare = (s t : State) → length s ≡ length t → numeral s < numeral t ↔ Before s t

-- equal numerals are equal states
abbrev pub NumeralsTell : Type 0
NumeralsTell = (s t : State) → length s ≡ length t → numeral s ≡ numeral t → s ≡ t

pub record BoxLaws : Type 0 where
  pub exists : LargestExists
  pub unique : LargestUnique
  pub fewer : LargestFewer
  pub from : LargestFrom
  pub facts : FactsLargest
  pub more : FactsFewer
  pub telling : LargestTold
  pub states : StatesKept
  pub allowed : AllowedKept
  pub singles : SinglesMeet
  pub orderless : OrderFree
  pub strikes : StrikeFixed
  pub past : StrikePast
  pub tuples : SupportByTuple
  pub compare : NumeralsCompare
  pub tell : NumeralsTell
