-- Why a relation is not added to a table.
use Rattle.std.specs.Prelude.{ℕ, if◌then◌else◌, Some, None, Ok, Err, Option, Result, nat_le}
use Rattle.model.specs.Refusals.{some_large, some_twice}
use Rattle.model.specs.declared.refusal.AddRefusal.{AddRefusal}
use Rattle.model.specs.declared.refusal.AddRefusal.TheVariants.{Flag, Twice, Full}
use Rattle.table.specs.Relations.{flags_of}
use Rattle.table.specs.declared.relation.Relation.{Relation}

-- a relation with its flags as bytes
abbrev pub in_bytes : Relation ℕ → Result (Relation ℕ) AddRefusal
in_bytes r = if some_large (flags_of r) then Err Flag else Ok r

-- the refusal of a relation by a table of so many rows, if any: its flags are looked at first
abbrev pub refusal : ℕ → Relation ℕ → Option AddRefusal
refusal count r =
    if some_large (flags_of r) then Some Flag else
    if some_twice (flags_of r) then Some Twice else
    if nat_le 512 count then Some Full else
    None
