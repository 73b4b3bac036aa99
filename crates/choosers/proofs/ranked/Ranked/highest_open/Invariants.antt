use Rattle.std.proofs.Common.{◌≡◌, length}
use Rattle.model.specs.View.{at}
use Rattle.choosers.specs.Choices.{highest}
use Rattle.choosers.proofs.ranked.Ranked.highest_open.Given as goal

-- the best of the flags so far
abbrev pub invariant-loop-flag : goal.invariant-loop-flag
invariant-loop-flag l = l.best ≡ highest l.self.ranks (at l.b) (length l.yielded)
