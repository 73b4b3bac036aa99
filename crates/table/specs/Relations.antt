-- The four kinds of relations: their places, their flags, the tuples that they allow and the rows that they mean.
use Rattle.std.specs.Prelude.{ℕ, Bool, false, not, ◌&&◌, ◌||◌, ◌⊎◌, List, [], ◌∷◌, Some, None, Option}
use Rattle.std.specs.Bool.{beq}
use Rattle.model.specs.Rows.{Row}
use Rattle.table.specs.declared.relation.Relation.{Relation}
use Rattle.table.specs.declared.relation.Relation.TheVariants.{Equal, Not, And, Or}

-- what stands at the first, the second and the third place; a relation of two has no third
abbrev pub first : {A : Type 0} → Relation A → A
first (Equal x y) = x
first (Not x y) = x
first (And x y z) = x
first (Or x y z) = x

abbrev pub second : {A : Type 0} → Relation A → A
second (Equal x y) = y
second (Not x y) = y
second (And x y z) = y
second (Or x y z) = y

abbrev pub third : {A : Type 0} → Relation A → Option A
third (Equal x y) = None
third (Not x y) = None
third (And x y z) = Some z
third (Or x y z) = Some z

abbrev pub parts : {A : Type 0} → Relation A → List A
parts (Equal x y) = x ∷ (y ∷ [])
parts (Not x y) = x ∷ (y ∷ [])
parts (And x y z) = x ∷ (y ∷ (z ∷ []))
parts (Or x y z) = x ∷ (y ∷ (z ∷ []))

-- the relation of what a function gives at each place
abbrev pub each : {A B : Type 0} → (A → B) → Relation A → Relation B
each f (Equal x y) = Equal (f x) (f y)
each f (Not x y) = Not (f x) (f y)
each f (And x y z) = And (f x) (f y) (f z)
each f (Or x y z) = Or (f x) (f y) (f z)

-- two relations are of one kind, and what stands at a place of one is related to what stands there in the other
abbrev pub Placewise : {A B : Type 0} → (A → B → Type 0) → Relation A → Relation B → Type 0
Placewise R (Equal x y) (Equal a b) = R x a × R y b
Placewise R (Not x y) (Not a b) = R x a × R y b
Placewise R (And x y z) (And a b c) = R x a × R y b × R z c
Placewise R (Or x y z) (Or a b c) = R x a × R y b × R z c
Placewise R r s = ⊥

-- a fact holds of what stands at some place, and of what stands at each
abbrev pub AtSomePlace : {A : Type 0} → (A → Type 0) → Relation A → Type 0
AtSomePlace P (Equal x y) = P x ⊎ P y
AtSomePlace P (Not x y) = P x ⊎ P y
AtSomePlace P (And x y z) = P x ⊎ (P y ⊎ P z)
AtSomePlace P (Or x y z) = P x ⊎ (P y ⊎ P z)

abbrev pub AtEachPlace : {A : Type 0} → (A → Type 0) → Relation A → Type 0
AtEachPlace P (Equal x y) = P x × P y
AtEachPlace P (Not x y) = P x × P y
AtEachPlace P (And x y z) = P x × P y × P z
AtEachPlace P (Or x y z) = P x × P y × P z

abbrev pub flags_of : Relation ℕ → List ℕ
flags_of r = parts r

-- when values stand in each relation: x = y, not x = y, x and y = z, x or y = z
abbrev pub equal : Bool → Bool → Bool
equal x y = beq x y

abbrev pub opposite : Bool → Bool → Bool
opposite x y = beq (not x) y

abbrev pub both : Bool → Bool → Bool → Bool
both x y z = beq (x && y) z

abbrev pub either : Bool → Bool → Bool → Bool
either x y z = beq (x || y) z

-- a test of pairs, and one of triples, as a test of tuples
abbrev pub of_two : (Bool → Bool → Bool) → List Bool → Bool
of_two p [] = false
of_two p (x ∷ []) = false
of_two p (x ∷ (y ∷ [])) = p x y
of_two p (x ∷ (y ∷ (z ∷ vs))) = false

abbrev pub of_three : (Bool → Bool → Bool → Bool) → List Bool → Bool
of_three p [] = false
of_three p (x ∷ vs) = of_two (p x) vs

-- the tuples that a relation of each kind allows
abbrev pub allowed : {A : Type 0} → Relation A → List Bool → Bool
allowed (Equal x y) = of_two equal
allowed (Not x y) = of_two opposite
allowed (And x y z) = of_three both
allowed (Or x y z) = of_three either

-- the row that a relation of flags means
abbrev pub row_of : Relation ℕ → Row
row_of r = record { flags = flags_of r; allows = allowed r }
