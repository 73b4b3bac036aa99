use Rattle.std.proofs.Common.{◌++◌, [], ◌∷◌, rules}
use Rattle.std.specs.Fmt.{HasWritten}
use Rattle.std.proofs.Output.{has_written_of_eq}
use Rattle.model.specs.View.{at}
use Rattle.stories.specs.Words.{struck_line}
use Rattle.stories.proofs.Wording.{struck_said}
use Rattle.stories.proofs.saying.StruckOut.write_value.Goals as goal

pub returns : goal.returns
returns g c = λ p ok.
    let said = c.args.self.now in
    let line : HasWritten g.W.Write.write_str_gives c.args.f.now (struck_line said.flags.names.now c.args.flag c.args.value ++ 10 ∷ []) c.writeln.new.self = search rules in
    has_written_of_eq _ _ _ _ _ (struck_said said.flags.names.now (at said.before.now) (at said.after.now) c.args.flag c.args.value c.if-not-is_struck.ensures) line
