use Rattle.std.proofs.Common.{inl, inr, ⊎_elim, arith}
use Rattle.model.specs.Rows.{nth_row, row_at}
use Rattle.model.specs.Rows.{workable}
use Rattle.narrowing.proofs.Wakes.{near_more}
use Rattle.model.proofs.Workable.{flag_below}
use Rattle.narrowing.proofs.waking.wake_neighbours.Goals as goal

pub loop-flag-preserved : goal.loop-flag-preserved
loop-flag-preserved g c k =
    let rows = g.B.Book.rows c.args.book.now in
    near_more (row_at rows c.args.row) (nth_row (workable rows) k) c.loop-flag.flag _ _ _ (c.loop-flag.invariant k) (c.wake_sharing.ensures k)

pub returns : goal.returns
returns g c k =
    let rows = g.B.Book.rows c.args.book.now in (
      (λ h. ⊎_elim (λ s. inl (s.0, s.2, s.3)) inr ((c.loop-flag.invariant k).0 h)),
      (λ h. (c.loop-flag.invariant k).1
          (⊎_elim
          (λ s. inl (s.0, omega (arith, flag_below rows (g.met.B.Book.proper c.args.book.now) c.args.row s.0 s.1, c.loop-flag-test.false), s.1, s.2))
          inr
          h)),
    )
