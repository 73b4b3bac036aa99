-- The proof system BOOL: twenty rules over the sets of a row's flags, what they lead to, and that a strike leaves exactly that.
use Rattle.std.specs.Prelude.{◌≡◌, ℕ, Bool, true, false, List, [], ◌∷◌, map, slice_index_or, slice_set}
use Rattle.std.specs.List.{list_any}
use Rattle.model.specs.Domains.{is_empty, only, cut_set}
use Rattle.model.specs.Rows.{On, Distinct}
use Rattle.model.specs.Boxes.{Box}
use Rattle.model.specs.Strikes.{Struck}
use Rattle.model.specs.declared.domain.Domain.{Domain}
use Rattle.model.specs.declared.domain.Domain.TheVariants.{Empty}
use Rattle.table.specs.Relations.{flags_of, row_of}
use Rattle.table.specs.declared.relation.Relation.{Relation}
use Rattle.table.specs.declared.relation.Relation.TheVariants.{Equal, Not, And, Or}

-- that a flag, by its place in the row from 0, has a value
abbrev pub Claim : Type 0
Claim = ℕ × Bool

pub record Rule : Type 0 where
  pub premises : List Claim
  pub conclusions : List Claim

abbrev pub ◌⇒◌ : List Claim → List Claim → Rule
ps ⇒ cs = record { premises = ps; conclusions = cs }

infix 20 ◌⇒◌
-- x, y and z are the first, the second and the third flag
abbrev pub x=0 : Claim
x=0 = (0, false)

abbrev pub x=1 : Claim
x=1 = (0, true)

abbrev pub y=0 : Claim
y=0 = (1, false)

abbrev pub y=1 : Claim
y=1 = (1, true)

abbrev pub z=0 : Claim
z=0 = (2, false)

abbrev pub z=1 : Claim
z=1 = (2, true)

-- the rules for each kind of row
abbrev pub rules_of : {A : Type 0} → Relation A → List Rule
rules_of (Equal x y) =
    (x=1 ∷ [] ⇒ y=1 ∷ [])  -- EQU 1
    ∷ ((y=1 ∷ [] ⇒ x=1 ∷ [])  -- EQU 2
    ∷ ((x=0 ∷ [] ⇒ y=0 ∷ [])  -- EQU 3
    ∷ ((y=0 ∷ [] ⇒ x=0 ∷ [])  -- EQU 4
    ∷ [])))
rules_of (Not x y) =
    (x=1 ∷ [] ⇒ y=0 ∷ [])  -- NOT 1
    ∷ ((x=0 ∷ [] ⇒ y=1 ∷ [])  -- NOT 2
    ∷ ((y=1 ∷ [] ⇒ x=0 ∷ [])  -- NOT 3
    ∷ ((y=0 ∷ [] ⇒ x=1 ∷ [])  -- NOT 4
    ∷ [])))
rules_of (And x y z) =
    (x=1 ∷ (y=1 ∷ []) ⇒ z=1 ∷ [])  -- AND 1
    ∷ ((x=1 ∷ (z=0 ∷ []) ⇒ y=0 ∷ [])  -- AND 2
    ∷ ((y=1 ∷ (z=0 ∷ []) ⇒ x=0 ∷ [])  -- AND 3
    ∷ ((x=0 ∷ [] ⇒ z=0 ∷ [])  -- AND 4
    ∷ ((y=0 ∷ [] ⇒ z=0 ∷ [])  -- AND 5
    ∷ ((z=1 ∷ [] ⇒ x=1 ∷ (y=1 ∷ []))  -- AND 6
    ∷ [])))))
rules_of (Or x y z) =
    (x=1 ∷ [] ⇒ z=1 ∷ [])  -- OR 1
    ∷ ((x=0 ∷ (y=0 ∷ []) ⇒ z=0 ∷ [])  -- OR 2
    ∷ ((x=0 ∷ (z=1 ∷ []) ⇒ y=1 ∷ [])  -- OR 3
    ∷ ((y=0 ∷ (z=1 ∷ []) ⇒ x=1 ∷ [])  -- OR 4
    ∷ ((y=1 ∷ [] ⇒ z=1 ∷ [])  -- OR 5
    ∷ ((z=0 ∷ [] ⇒ x=0 ∷ (y=0 ∷ []))  -- OR 6
    ∷ [])))))

-- the rule of a number, and one that does nothing where there is none
abbrev pub nth_rule : List Rule → ℕ → Rule
nth_rule rules k = slice_index_or rules k ([] ⇒ [])

-- the sets of a row's flags, in their order
abbrev pub sets_of : Box → Relation ℕ → List Domain
sets_of b r = map b (flags_of r)

abbrev pub set_at : List Domain → ℕ → Domain
set_at sets place = slice_index_or sets place Empty

-- each flag has exactly the value
abbrev pub Hold : List Claim → List Domain → Type 0
Hold [] sets = Unit {0}
Hold (c ∷ cs) sets = (set_at sets c.0 ≡ only c.1) × Hold cs sets

-- each flag is cut to the value
abbrev pub cut_to : List Claim → List Domain → List Domain
cut_to [] sets = sets
cut_to (c ∷ cs) sets = cut_to cs (slice_set sets c.0 (cut_set (set_at sets c.0) c.1))

-- rules whose premises hold, applied one after another, lead from some sets to others
abbrev pub Leads : List Rule → List ℕ → List Domain → List Domain → Type 0
Leads rules [] sets c = sets ≡ c
Leads rules (k ∷ ks) sets c = Hold (nth_rule rules k).premises sets × Leads rules ks (cut_to (nth_rule rules k).conclusions sets) c

-- no rule alters what they lead to
pub record Closure (rules : List Rule) (sets c : List Domain) : Type 0 where
  pub steps : List ℕ
  pub reached : Leads rules steps sets c
  pub closed : (k : ℕ) → Hold (nth_rule rules k).premises c → cut_to (nth_rule rules k).conclusions c ≡ c

abbrev pub some_empty : List Domain → Bool
some_empty ds = list_any is_empty ds

-- a strike of a row leaves its flags what the rules lead to; if that has an empty set, it empties every flag of the row
abbrev pub StrikeClosed : Type 0
StrikeClosed =
    (r : Relation ℕ) →
    Distinct (flags_of r) →
    (before after : Box) →
    Struck (row_of r) before after →
    (c : List Domain) →
    Closure (rules_of r) (sets_of before r) c →
    (some_empty c ≡ true → (f : ℕ) → On (row_of r) f → after f ≡ Empty) × (some_empty c ≡ false → sets_of after r ≡ c)

-- and the rules always lead somewhere
abbrev pub ClosureExists : Type 0
ClosureExists = (r : Relation ℕ) (before : Box) → (c : List Domain) × Closure (rules_of r) (sets_of before r) c

pub record BoolRules : Type 0 where
  pub strike : StrikeClosed
  pub exists : ClosureExists
