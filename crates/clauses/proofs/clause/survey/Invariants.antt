use Rattle.std.proofs.Common.{◌≡◌, false, take}
use Rattle.model.specs.View.{at}
use Rattle.clauses.specs.Outlooks.{possible, some_empty, by_number}
use Rattle.clauses.proofs.clause.survey.Given as goal

-- no flag so far is empty, and as many literals so far can be true
abbrev pub invariant-loop-literal : goal.invariant-loop-literal
invariant-loop-literal l =
    let before = take l.literal-index l.clause in
    (some_empty (at l.b) before ≡ false) × (l.seen ≡ by_number (possible (at l.b) before))
