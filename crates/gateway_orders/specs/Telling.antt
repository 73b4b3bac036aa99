-- What it means to tell one more fact.
use Rattle.std.specs.Prelude.{ℕ, Bool, List}
use Rattle.model.specs.Rows.{Row}
use Rattle.model.specs.Boxes as boxes
use Rattle.model.specs.Boxes.{Box}
use Rattle.model.specs.Facts.{Facts, told, LargestUnder}
use Rattle.narrowing.specs.declared.Verdict.{Verdict}
use Rattle.stories.specs.Telling.{Tells}

-- so at all facts whose largest box this is, alive
abbrev pub Told : List Row → Box → ℕ → Bool → Box → Verdict → Type 0
Told rows before f v after verdict = (held : Facts) → LargestUnder rows held before → boxes.Alive before → Tells verdict rows (told held f v) before after
