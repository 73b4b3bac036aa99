-- The numbers of refusals.
use Rattle.std.specs.Prelude.{ℕ}
use Rattle.model.specs.declared.refusal.AddRefusal.{AddRefusal}
use Rattle.model.specs.declared.refusal.AddRefusal.TheVariants.{Flag, Twice, Full, NoLiteral}
use Rattle.model.specs.declared.refusal.MakeRefusal.{MakeRefusal}
use Rattle.model.specs.declared.refusal.MakeRefusal.TheVariants.{Memory}

-- adding a row: a flag above 255, a flag twice in the row, a full book, a clause without a literal
abbrev pub add_number : AddRefusal → ℕ
add_number Flag = 7
add_number Twice = 12
add_number Full = 13
add_number NoLiteral = 14

-- making a book, a scheduler or a case: want of memory
abbrev pub make_number : MakeRefusal → ℕ
make_number Memory = 30
