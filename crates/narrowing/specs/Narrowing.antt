-- What narrowing means.
use Rattle.std.specs.Prelude.{◌≡◌, ℕ, ◌<◌, Bool, true, ◌⊎◌, List, length}
use Rattle.model.specs.Rows.{Row, nth_row}
use Rattle.model.specs.Boxes as boxes
use Rattle.model.specs.Boxes.{Box, RowConsistent, ◌⊆◌, Largest}
use Rattle.narrowing.specs.declared.Verdict.{Verdict}
use Rattle.narrowing.specs.declared.Verdict.TheVariants.{Alive, Dead}

-- alive: the box is the largest one, which is alive; dead: the largest one is dead, and the box, which depends on the order of strikes, is
-- free between it and the one given
abbrev pub Outcome : Verdict → Box → Box → Box → Type 0
Outcome Alive before largest after = boxes.Alive largest × (after ≡ largest)
Outcome Dead before largest after = boxes.Dead largest × (largest ⊆ after) × (after ⊆ before)

-- the outcome of narrowing a box, over the largest consistent box inside it
pub record Narrowed (rows : List Row) (before after : Box) (verdict : Verdict) : Type 0 where
  pub largest : Box
  pub is_largest : Largest rows before largest
  pub outcome : Outcome verdict before largest after

-- each row waits, or supports the values of its flags already
abbrev pub Pending : List Row → (ℕ → Bool) → Box → Type 0
Pending rows waits b = (k : ℕ) → k < length rows → (waits k ≡ true) ⊎ RowConsistent (nth_row rows k) b

-- what settling the rows that wait comes to: no value is added, and from a live box with each row pending it is narrowing
pub record Settled (rows : List Row) (waits : ℕ → Bool) (before after : Box) (verdict : Verdict) : Type 0 where
  pub down : after ⊆ before
  pub narrowed : boxes.Alive before → Pending rows waits before → Narrowed rows before after verdict
