-- Which numbers wait after rows were woken.
use Rattle.std.specs.Prelude.{◌≡◌, ℕ, Bool, true, false, cond, not, ◌&&◌, ◌||◌, List, Some, None, Option, ◌==◌, nat_lt}
use Rattle.std.specs.Bool.{beq}
use Rattle.std.specs.List.{list_any}
use Rattle.model.specs.Domains.{has}
use Rattle.model.specs.Rows.{elem}
use Rattle.model.specs.Boxes.{Box}
use Rattle.model.specs.declared.domain.Domain.{Domain}
use Rattle.index.specs.Indexes.{rows_with}
use Rattle.index.specs.declared.Index.{Index}

-- whether a number is the one that is left out, if there is such a one
abbrev pub left_out : Option ℕ → ℕ → Bool
left_out None k = false
left_out (Some row) k = k == row

-- whether waking some numbers but one wakes a number
abbrev pub woken : Option ℕ → List ℕ → ℕ → Bool
woken but rows k = nat_lt k 1024 && (not (left_out but k) && elem k rows)

-- those that waited, and those of the numbers that can wait, but one
abbrev pub WokenEach : Option ℕ → List ℕ → (ℕ → Bool) → (ℕ → Bool) → Type 0
WokenEach but rows before after = (k : ℕ) → after k ≡ (woken but rows k || before k)

-- whether two sets differ
abbrev pub differ : Domain → Domain → Bool
differ d e = not (beq (has d false) (has e false) && beq (has d true) (has e true))

-- whether a number is woken since a flag's set differs: it is that of another row that has the flag
abbrev pub woken_at : Index → Box → Box → ℕ → ℕ → ℕ → Bool
woken_at index before after row k f = differ (before f) (after f) && woken (Some row) (rows_with index f) k

-- those that waited, and the other rows that have one of the flags at which the sets differ
abbrev pub WokenFor : Index → Box → Box → ℕ → List ℕ → (ℕ → Bool) → (ℕ → Bool) → Type 0
WokenFor index old new row flags before after = (k : ℕ) → after k ≡ (list_any (woken_at index old new row k) flags || before k)

-- a box that has another's sets at some flags
abbrev pub CaughtUp : List ℕ → Box → Box → Box → Type 0
CaughtUp flags new before after = (f : ℕ) → after f ≡ cond (elem f flags) (new f) (before f)
