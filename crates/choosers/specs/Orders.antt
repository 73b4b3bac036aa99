-- The orders of the choosers: which of the flags that can be chosen comes first.
use Rattle.std.specs.Prelude.{◌≡◌, ℕ, ◌<◌, ◌≤◌, Bool, true, false, ◌⊎◌, ◌↔◌, List, Some, None, ◌≢◌}
use Rattle.model.specs.Boxes.{Box}
use Rattle.model.specs.Picks.{Choosable}
use Rattle.choosers.specs.Choices.{rank, rising, ranked}

-- no flag can be chosen
abbrev pub NoneChoosable : Box → ℕ → Type 0
NoneChoosable b n = (f : ℕ) → Choosable b n f → ⊥

-- f can be chosen, and no lower flag can
abbrev pub ComesFirst : Box → ℕ → ℕ → Type 0
ComesFirst b n f = Choosable b n f × ((g : ℕ) → Choosable b n g → f ≤ g)

-- f can be chosen, and every other flag that can has a lower rank, or the same rank and a higher number
abbrev pub RanksFirst : List ℕ → Box → ℕ → ℕ → Type 0
RanksFirst ranks b n f =
    Choosable b n f
    × ((g : ℕ) → Choosable b n g → (g ≢ f) → (rank ranks g < rank ranks f) ⊎ ((rank ranks g ≡ rank ranks f) × (f < g)))

-- the rising chooser answers the flag that comes first, with 0, and none exactly when no flag can be chosen
pub record RisingOrder : Type 0 where
  pub picked : (b : Box) (n f : ℕ) (v : Bool) → (rising b n ≡ Some (f, v)) ↔ ((v ≡ false) × ComesFirst b n f)
  pub none : (b : Box) (n : ℕ) → (rising b n ≡ None) ↔ NoneChoosable b n

-- the ranked chooser answers the flag that ranks first, with 1, and none exactly when no flag can be chosen
pub record RankedOrder : Type 0 where
  pub picked : (ranks : List ℕ) (b : Box) (n f : ℕ) (v : Bool) → (ranked ranks b n ≡ Some (f, v)) ↔ ((v ≡ true) × RanksFirst ranks b n f)
  pub none : (ranks : List ℕ) (b : Box) (n : ℕ) → (ranked ranks b n ≡ None) ↔ NoneChoosable b n
