-- Rows: the rules that a book is made of.
use Rattle.std.specs.Prelude.{◌≡◌, ℕ, ◌<◌, Bool, true, false, ◌||◌, ◌↔◌, List, [], ◌∷◌, map, length, take, ◌==◌, slice_index_or}

-- a value for every flag
abbrev pub Valuation : Type 0
Valuation = ℕ → Bool

-- a row: its flags, and the tuples of values, in the order of its flags, that it allows
pub record Row : Type 0 where
  pub flags : List ℕ
  pub allows : List Bool → Bool

abbrev pub elem : ℕ → List ℕ → Bool
elem f [] = false
elem f (g ∷ gs) = f == g || elem f gs

-- whether a row has a flag
abbrev pub on : Row → ℕ → Bool
on r f = elem f r.flags

abbrev pub On : Row → ℕ → Type 0
On r f = on r f ≡ true

abbrev pub Distinct : List ℕ → Type 0
Distinct [] = Unit {0}
Distinct (f ∷ fs) = (elem f fs ≡ false) × Distinct fs

-- a row has one or more different flags, numbered below 256
pub record Proper (r : Row) : Type 0 where
  pub some : 0 < length r.flags
  pub different : Distinct r.flags
  pub below : (f : ℕ) → On r f → f < 256

-- what stands for a row where there is none: it has no flag
abbrev pub no_row : Row
no_row = record { flags = []; allows = λ _. true }

abbrev pub nth_row : List Row → ℕ → Row
nth_row rows k = slice_index_or rows k no_row

abbrev pub AllProper : List Row → Type 0
AllProper rows = (k : ℕ) → k < length rows → Proper (nth_row rows k)

-- the rows that have a number, and the row of a number
abbrev pub listed : List Row → List Row
listed rows = take 65535 rows

abbrev pub row_at : List Row → ℕ → Row
row_at rows k = nth_row (listed rows) k

-- the rows whose numbers a scheduler can hold: of 1,024 rows or fewer, all
abbrev pub workable : List Row → List Row
workable rows = take 1024 rows

-- values meet a row when those at its flags are a tuple that it allows
abbrev pub Meets : Row → Valuation → Type 0
Meets r s = r.allows (map s r.flags) ≡ true

abbrev pub MeetsAll : List Row → Valuation → Type 0
MeetsAll rows s = (k : ℕ) → k < length rows → Meets (nth_row rows k) s

-- no flag of a row is n or more
abbrev pub FlagsBelow : List Row → ℕ → Type 0
FlagsBelow rows n = (k : ℕ) → k < length rows → (f : ℕ) → On (nth_row rows k) f → f < n

-- two rows are the same when they have the same flags and the same values meet them
pub record Same (r q : Row) : Type 0 where
  pub flags : (f : ℕ) → On r f ↔ On q f
  pub met : (s : Valuation) → Meets r s ↔ Meets q s

-- each row of the second list is the same as one of the first
abbrev pub Covers : List Row → List Row → Type 0
Covers rows others = (k : ℕ) → k < length others → (j : ℕ) × (j < length rows) × Same (nth_row rows j) (nth_row others k)
