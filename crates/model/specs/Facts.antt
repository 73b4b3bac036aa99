-- Facts, and the largest box under some.
use Rattle.std.specs.Prelude.{◌≡◌, ℕ, Bool, true, false, not, ◌&&◌, ◌||◌, List, ◌==◌}
use Rattle.std.specs.Bool.{beq}
use Rattle.model.specs.Domains.{Has, set_of, cut_set}
use Rattle.model.specs.Rows.{Row}
use Rattle.model.specs.Boxes.{Box, with_set, Consistent, ◌⊆◌}

-- a fact is a flag with a value; a set of facts answers which are held
abbrev pub Facts : Type 0
Facts = ℕ → Bool → Bool

abbrev pub no_facts : Facts
no_facts f v = false

-- one fact more
abbrev pub told : Facts → ℕ → Bool → Facts
told held f v g w = (g == f && beq w v) || held g w

-- no fact's flag has another value
abbrev pub Within : Facts → Box → Type 0
Within held b = (f : ℕ) (v : Bool) → held f v ≡ true → (w : Bool) → Has (b f) w → w ≡ v

-- the largest box under some facts
pub record LargestUnder (rows : List Row) (held : Facts) (b : Box) : Type 0 where
  pub consistent : Consistent rows b
  pub within : Within held b
  pub greatest : (c : Box) → Consistent rows c → Within held c → c ⊆ b

-- the box of the values that no fact rules out
abbrev pub facts_box : Facts → Box
facts_box held f = set_of (not (held f true)) (not (held f false))

-- a box with a flag's set cut down to a value
abbrev pub cut : Box → ℕ → Bool → Box
cut b f v = with_set b f (cut_set (b f) v)
