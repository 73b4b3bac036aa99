use Rattle.std.specs.Fmt.{HasWritten, IsPlainFormatter}
use Rattle.model.specs.View.{at}
use Rattle.stories.specs.Words.{struck_below}
use Rattle.stories.proofs.saying.StruckOutDisplay.fmt.Given as goal

-- the flags so far are written
abbrev pub invariant-loop-flag : goal.invariant-loop-flag
invariant-loop-flag g l = let said = l.self in
    IsPlainFormatter l.initial.f → HasWritten g.W.Write.write_str_gives l.initial.f (struck_below said.flags.names.now (at said.before.now) (at said.after.now) l.flag) l.f
