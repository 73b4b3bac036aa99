use Rattle.std.proofs.Common.{◌≡◌}
use Rattle.std.specs.Fmt.{HasWritten, IsPlainFormatter}
use Rattle.model.specs.View.{at}
use Rattle.stories.specs.Words.{none_open, open_below}
use Rattle.stories.proofs.saying.StillOpenDisplay.fmt.Given as goal

-- the names so far are written
abbrev pub invariant-loop-flag : goal.invariant-loop-flag
invariant-loop-flag g l = let said = l.self in
    (l.none ≡ none_open said.flags.names.now (at said.b.now) l.flag)
    × (IsPlainFormatter l.initial.f → HasWritten g.W.Write.write_str_gives l.initial.f (open_below said.flags.names.now (at said.b.now) l.flag) l.f)
