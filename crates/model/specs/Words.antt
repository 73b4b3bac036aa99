-- The words of refusals.
use Rattle.std.specs.Prelude.{ℕ, List, ◌++◌, codes, decimal}
use Rattle.model.specs.Numbers.{add_number, make_number}
use Rattle.model.specs.declared.refusal.AddRefusal.{AddRefusal}
use Rattle.model.specs.declared.refusal.AddRefusal.TheVariants.{Flag, Twice, Full, NoLiteral}
use Rattle.model.specs.declared.refusal.MakeRefusal.{MakeRefusal}
use Rattle.model.specs.declared.refusal.MakeRefusal.TheVariants.{Memory}

-- the reason, as it is said
abbrev pub add_reason : AddRefusal → List ℕ
add_reason Flag = codes "a flag above 255"
add_reason Twice = codes "a flag twice in one row"
add_reason Full = codes "the book is full"
add_reason NoLiteral = codes "a clause without a literal"

abbrev pub make_reason : MakeRefusal → List ℕ
make_reason Memory = codes "no memory"

-- a refusal is said with its number before its reason
abbrev pub said : ℕ → List ℕ → List ℕ
said number reason = codes "refused " ++ (decimal number ++ (codes ": " ++ reason))

abbrev pub add_said : AddRefusal → List ℕ
add_said e = said (add_number e) (add_reason e)

abbrev pub make_said : MakeRefusal → List ℕ
make_said e = said (make_number e) (make_reason e)
