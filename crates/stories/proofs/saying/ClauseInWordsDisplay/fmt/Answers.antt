use Rattle.std.proofs.Common.{rules, tests}
use Rattle.std.proofs.Output.{has_written_append, has_written_of_eq}
use Rattle.stories.proofs.Wording.{literals_more}
use Rattle.stories.proofs.saying.ClauseInWordsDisplay.fmt.Goals as goal

pub loop-literal-preserved : goal.loop-literal-preserved
loop-literal-preserved g c =
    let more = literals_more c.args.self.now.flags.names.now _ _ c.args.self.now.clause.now c.loop-literal.literal-index _ _ _ _ c.loop-literal-test.true c.loop-literal.invariant.1 c.name-name.ensures c.yes_or_no-value.ensures in
    (search rules, search (rules, tests), λ p. has_written_of_eq _ _ _ _ _ more (has_written_append _ _ _ _ _ _ (c.loop-literal.invariant.2 p) (search rules)))
