use Rattle.std.proofs.Output.{has_written_of_eq}
use mathlib.Core.List.{append_assoc}
use Rattle.stories.proofs.saying.StruckValueDisplay.fmt.Goals as goal

pub returns-clause-writes : goal.returns-clause-writes
returns-clause-writes g c = λ p ok.
    has_written_of_eq _ _ _ _ _ (rw (c.name-name.ensures, c.yes_or_no-gone.ensures, c.yes_or_no-left.ensures) (simp append_assoc)) (c.write.ensures.writes p ok)
