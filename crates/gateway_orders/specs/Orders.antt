-- What telling in several orders comes to.
use Rattle.std.specs.Prelude.{◌≡◌, ℕ, Bool, List, Some, None, Option}
use Rattle.model.specs.Rows.{Row}
use Rattle.model.specs.Boxes as boxes
use Rattle.model.specs.Boxes.{Box}
use Rattle.model.specs.Facts.{Facts, no_facts, told, LargestUnder}
use Rattle.model.specs.View.{at}
use Rattle.narrowing.specs.declared.Verdict.{Verdict}
use Rattle.stories.specs.Telling.{Tells}
use Rattle.gateway_orders.specs.declared.orders.Boxes.{Boxes}

-- all orders came to the same box
abbrev pub Agree : Boxes → Type 0
Agree b = (at b.ring ≡ at b.queue) × (at b.ring ≡ at b.lanes)

-- the same live box in all orders, the largest under no facts; or none where that is dead
abbrev pub StartedAll : List Row → Option Boxes → Type 0
StartedAll rows None = (d : Box) × LargestUnder rows no_facts d × boxes.Dead d
StartedAll rows (Some b) = LargestUnder rows no_facts (at b.ring) × boxes.Alive (at b.ring) × Agree b

-- from the same box in all orders, the largest one under some facts and alive, the fact is told, and all orders come to the same box again
abbrev pub ToldAll : List Row → Boxes → ℕ → Bool → Boxes → Verdict → Type 0
ToldAll rows before f v after verdict =
    (held : Facts) → LargestUnder rows held (at before.ring) → boxes.Alive (at before.ring) → Agree before
    → Tells verdict rows (told held f v) (at before.ring) (at after.ring) × Agree after
