use Rattle.std.proofs.Common.{◌≡◌, map, take}
use Rattle.table.specs.Relations.{row_of}
use Rattle.table.specs.Tables.{rows_of}
use Rattle.stories.proofs.books.table_of.Given as goal

-- the table has the rules so far
abbrev pub invariant-loop-rule : goal.invariant-loop-rule
invariant-loop-rule l = rows_of l.table ≡ map row_of (take l.rule-index l.rules)
