use Rattle.std.proofs.Common.{◌≡◌, take}
use Rattle.model.specs.View.{at}
use Rattle.clauses.specs.Literals.{flags_of}
use Rattle.clauses.specs.Outlooks.{emptied}
use Rattle.clauses.proofs.clause.empty_all.Given as goal

-- the flags of the literals so far are empty
abbrev pub invariant-loop-literal : goal.invariant-loop-literal
invariant-loop-literal l = at l.b ≡ emptied (flags_of (take l.literal-index l.clause)) (at l.initial.b)
