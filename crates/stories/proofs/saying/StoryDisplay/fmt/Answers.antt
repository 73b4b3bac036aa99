use Rattle.std.proofs.Common.{◌++◌, [], ◌∷◌, rules}
use Rattle.std.proofs.lemmas.List.{take_all}
use Rattle.std.specs.Fmt.{HasWritten}
use Rattle.std.proofs.Output.{has_written_append, has_written_of_eq}
use Rattle.stories.proofs.saying.StoryDisplay.fmt.Goals as goal

pub returns-clause-writes : goal.returns-clause-writes
returns-clause-writes g c = λ p ok.
    let story = c.args.self.now in
    let title : HasWritten g.W.Write.write_str_gives c.args.f.now (story.title.now ++ 10 ∷ []) c.writeln.new.self = search rules in
    let clauses = c.loop-clause.invariant title.plain in
    let ruled = c.loop-rule.invariant clauses.plain in
    has_written_of_eq _ _ _ _ _
    (rw (take_all c.loop-clause.clause-index story.clauses.now c.loop-clause-test.false, take_all c.loop-rule.rule-index story.rules.now c.loop-rule-test.false))
    (has_written_append _ _ _ _ _ _ title (has_written_append _ _ _ _ _ _ clauses ruled))
