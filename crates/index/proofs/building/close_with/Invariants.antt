use Rattle.std.proofs.Common.{◌≡◌, ◌++◌}
use Rattle.ragged.specs.Lists.{lists_of, open_of}
use Rattle.index.proofs.building.close_with.Given as goal

-- the items so far stand last in the open list, and the closed ones are as before
abbrev pub invariant-loop-item : goal.invariant-loop-item
invariant-loop-item g l = record {
  closed : lists_of l.lists ≡ lists_of l.initial.lists;
  last : open_of l.lists ≡ open_of l.initial.lists ++ l.yielded;
}
