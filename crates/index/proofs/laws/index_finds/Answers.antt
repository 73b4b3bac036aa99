use Rattle.index.proofs.Gathered.{index_finds}
use Rattle.index.proofs.laws.index_finds.Goals as goal

pub returns : goal.returns
returns c = index_finds
