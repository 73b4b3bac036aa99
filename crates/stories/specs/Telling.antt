-- What it means to start with no facts, and to tell one more.
use Rattle.std.specs.Prelude.{◌≡◌, List, Some, None, Option}
use Rattle.model.specs.Rows.{Row}
use Rattle.model.specs.Boxes as boxes
use Rattle.model.specs.Boxes.{Box}
use Rattle.model.specs.Facts.{Facts, no_facts, LargestUnder}
use Rattle.model.specs.View.{at}
use Rattle.model.specs.declared.boxes.FlagBox.{FlagBox}
use Rattle.narrowing.specs.declared.Verdict.{Verdict}
use Rattle.narrowing.specs.declared.Verdict.TheVariants.{Alive, Dead}

-- a live box that is the largest under no facts, or none where that largest box is dead
abbrev pub Started : List Row → Option FlagBox → Type 0
Started rows None = (d : Box) × LargestUnder rows no_facts d × boxes.Dead d
Started rows (Some b) = LargestUnder rows no_facts (at b) × boxes.Alive (at b)

-- alive: the box is the largest under the facts held and this one, and alive; dead: that largest box is dead, and the box is as before
abbrev pub Tells : Verdict → List Row → Facts → Box → Box → Type 0
Tells Alive rows held before after = LargestUnder rows held after × boxes.Alive after
Tells Dead rows held before after = ((d : Box) × LargestUnder rows held d × boxes.Dead d) × (after ≡ before)

-- the box that is kept: after a contradiction the one before it
abbrev pub kept : Verdict → FlagBox → FlagBox → FlagBox
kept Alive before after = after
kept Dead before after = before
