-- The one view of a box's layout.
use Rattle.std.specs.Prelude.{cond, nat_lt, slice_index_or}
use Rattle.model.specs.Boxes.{Box}
use Rattle.model.specs.declared.boxes.FlagBox.{FlagBox}
use Rattle.model.specs.declared.domain.Domain.TheVariants.{Open}

-- the set of each of the 256 flags; a number past them counts as an open flag
unfoldable pub at : FlagBox → Box
at b f = cond (nat_lt f 256) (slice_index_or b.sets f Open) Open
