use Rattle.std.proofs.Common.{take}
use Rattle.model.specs.View.{at}
use Rattle.indexed.specs.Waking.{CaughtUp}
use Rattle.indexed.proofs.waking.catch_up.Given as goal

-- the sets of the flags so far are copied
abbrev pub invariant-loop-flag : goal.invariant-loop-flag
invariant-loop-flag l = CaughtUp (take l.flag-index l.flags) (at l.b) (at l.initial.seen) (at l.seen)
