use Rattle.std.proofs.Common.{◌≡◌, ◌==◌, if◌then◌else◌, take, codes}
use Rattle.std.specs.Fmt.{HasWritten, IsPlainFormatter}
use denote.Shadow.{shadow}
use denote.Text.{Utf8}
use Rattle.stories.specs.Words.{literals_text}
use Rattle.stories.proofs.saying.ClauseInWordsDisplay.fmt.Given as goal

-- the literals so far are written
abbrev pub invariant-loop-literal : goal.invariant-loop-literal
invariant-loop-literal g l =
    shadow (Utf8 l.separator)
    × (l.separator ≡ (if l.literal-index == 0 then codes " " else codes ", or "))
    × (IsPlainFormatter l.initial.f → HasWritten g.W.Write.write_str_gives l.initial.f (literals_text l.self.flags.names.now (codes " ") (codes ", or ") (take l.literal-index l.self.clause.now)) l.f)
