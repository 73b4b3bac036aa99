-- Clauses as lists of literals, and the rows that they mean.
use Rattle.std.specs.Prelude.{ℕ, Bool, false, cond, ◌||◌, List, [], ◌∷◌, map, Ok, Err, Result, nat_lt}
use Rattle.std.specs.Bool.{beq}
use Rattle.model.specs.Rows.{Row}
use Rattle.model.specs.declared.refusal.AddRefusal.{AddRefusal}
use Rattle.model.specs.declared.refusal.AddRefusal.TheVariants.{Flag}
use Rattle.clauses.specs.declared.literal.Literal.{Literal}

abbrev pub flag_of : Literal ℕ → ℕ
flag_of l = l.flag

-- a literal as it is stored, if its flag is not above 255
abbrev pub in_bytes : Literal ℕ → Result (Literal ℕ) AddRefusal
in_bytes l = cond (nat_lt 255 l.flag) (Err Flag) (Ok l)

abbrev pub flags_of : List (Literal ℕ) → List ℕ
flags_of ls = map flag_of ls

-- some literal is true in a tuple, which has a value for each literal: one is true where its flag's value is its sign
abbrev pub some_true : List (Literal ℕ) → List Bool → Bool
some_true [] vs = false
some_true (l ∷ ls) [] = false
some_true (l ∷ ls) (v ∷ vs) = beq v l.positive || some_true ls vs

-- the row that a clause means: it allows the tuples in which some literal is true
abbrev pub row_of : List (Literal ℕ) → Row
row_of ls = record { flags = flags_of ls; allows = some_true ls }
