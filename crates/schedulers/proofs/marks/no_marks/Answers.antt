use Rattle.schedulers.proofs.Marking.{none_marked}
use Rattle.schedulers.proofs.marks.no_marks.Goals as goal

pub returns-clause-none : goal.returns-clause-none
returns-clause-none c = none_marked 1024
