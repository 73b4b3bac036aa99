use Rattle.model.specs.Rows.{workable}
use Rattle.stories.proofs.Outcomes.{tells_kept}
use Rattle.gateway.proofs.telling.tell.Goals as goal

pub returns : goal.returns
returns g c = λ held l. tells_kept (workable (g.B.Book.rows c.args.book.now)) held c.args.fact.flag c.args.fact.value c.args.b.now _ l _ _ c.narrow_cut-verdict.ensures c.put_back.ensures
