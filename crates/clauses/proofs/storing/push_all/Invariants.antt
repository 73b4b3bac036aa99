use Rattle.std.proofs.Common.{◌≡◌, ◌++◌, take}
use Rattle.ragged.specs.Lists.{lists_of, open_of, Roomier}
use Rattle.clauses.proofs.storing.push_all.Given as goal

-- the literals so far are in the open list
abbrev pub invariant-loop-literal : goal.invariant-loop-literal
invariant-loop-literal l = (lists_of l.lists ≡ lists_of l.initial.lists) × Roomier l.initial.lists l.lists × (open_of l.lists ≡ open_of l.initial.lists ++ take l.literal-index l.clause)
