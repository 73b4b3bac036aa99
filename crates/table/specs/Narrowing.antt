-- What narrowing the sets of a relation's flags writes and answers.
use Rattle.std.specs.Prelude.{◌≡◌, ℕ, List, [], ◌∷◌, ◌≢◌}
use Rattle.model.specs.Boxes.{Box, with_set}
use Rattle.model.specs.declared.domain.Domain.{Domain}
use Rattle.model.specs.declared.domain.Domain.TheVariants.{Empty}
use Rattle.model.specs.declared.strike.Strike.{Strike}
use Rattle.model.specs.declared.strike.Strike.TheVariants.{Unchanged, Changed, Dead}
use Rattle.table.specs.Left.{left}
use Rattle.table.specs.Relations.{first, parts, each}
use Rattle.table.specs.declared.relation.Relation.{Relation}

-- a box with other sets at some flags
abbrev pub with_sets : List ℕ → List Domain → Box → Box
with_sets [] ss b = b
with_sets (f ∷ fs) [] b = b
with_sets (f ∷ fs) (s ∷ ss) b = with_sets fs ss (with_set b f s)

-- what a change of sets answers; a relation leaves every set empty or none, so the first one tells
abbrev pub Tells : Strike → Relation Domain → Relation Domain → Type 0
Tells Dead before after = first after ≡ Empty
Tells Changed before after = (first after ≢ Empty) × (after ≢ before)
Tells Unchanged before after = (first after ≢ Empty) × (after ≡ before)

-- each flag has what is left of its set
pub record Narrows (relation : Relation ℕ) (before after : Box) (answer : Strike) : Type 0 where
  pub sets : after ≡ with_sets (parts relation) (parts (left (each before relation))) before
  pub tells : Tells answer (each before relation) (left (each before relation))
