use Rattle.std.proofs.Common.{rules, ◌≡◌, ℕ, map, length, ap, ◌∙◌, arith}
use borrow.Author.Tests.{tests}
use Rattle.std.proofs.lemmas.Iterator.{YieldsList-from_range}
use Rattle.std.proofs.lemmas.Iterator.Consumers.{YieldsList-from_filter}
use Rattle.std.specs.List.{range_with_len}
use Rattle.model.specs.Rows.{on, row_at, workable}
use Rattle.model.proofs.Workable.{few}
use Rattle.index.specs.Indexes.{those}
use Rattle.index.proofs.Gathered.{closed_more, drained}
use Rattle.index.proofs.building.rows_by_flag.Goals as goal

pub loop-flag-preserved : goal.loop-flag-preserved
unfolding those
loop-flag-preserved g c =
    let rows = g.B.Book.rows c.args.book.now in
    let n = c.workable_count-count.result in
    let has = λ (f : ℕ) (k : ℕ). on (row_at rows k) f in
    let e : c.in_ok-close_with.ensures.0 ≡ those (has c.loop-flag.flag-counter) n =
    drained c.in_ok-close_with.ensures.0 c.in_ok-close_with.ensures.1
    (YieldsList-from_filter _ _ (YieldsList-from_range 0 _ n c.filter.ensures.source (omega (arith, few rows))) c.filter.ensures.closure (λ x r q k. search (rules, tests))) in
    closed_more (λ f. those (has f) (length (workable rows))) c.loop-flag.flag-counter _ _ _ (e ∙ ap (those (has c.loop-flag.flag-counter)) c.workable_count-count.ensures) c.loop-flag.invariant c.in_ok-close_with.ensures.2

pub returns : goal.returns
returns g c =
    let rows = g.B.Book.rows c.args.book.now in
    let e : c.loop-flag.flag-counter ≡ 256 = omega arith in
    c.loop-flag.invariant.0 ∙ ap (λ n. map (λ f. those (λ k. on (row_at rows k) f) (length (workable rows))) (range_with_len 0 n)) e
