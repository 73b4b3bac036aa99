use Rattle.std.proofs.Common.{take, ◌++◌, [], ◌∷◌}
use Rattle.std.specs.Fmt.{HasWritten, IsPlainFormatter}
use Rattle.std.specs.List.{flat_map}
use Rattle.stories.specs.Words.{clause_text, rule_text}
use Rattle.stories.proofs.saying.StoryDisplay.fmt.Given as goal

-- the clauses so far are written
abbrev pub invariant-loop-clause : goal.invariant-loop-clause
invariant-loop-clause g l = let story = l.self in
    IsPlainFormatter l.initial.f → HasWritten g.W.Write.write_str_gives l.initial.f (flat_map (λ clause. clause_text story.flags.names.now clause.now ++ 10 ∷ []) (take l.clause-index story.clauses.now)) l.f

-- the rules so far are written
abbrev pub invariant-loop-rule : goal.invariant-loop-rule
invariant-loop-rule g l = let story = l.self in
    IsPlainFormatter l.initial.f → HasWritten g.W.Write.write_str_gives l.initial.f (flat_map (λ rule. rule_text story.flags.names.now rule ++ 10 ∷ []) (take l.rule-index story.rules.now)) l.f
