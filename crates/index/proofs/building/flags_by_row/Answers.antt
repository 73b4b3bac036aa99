use Rattle.std.proofs.Common.{rules, ◌≡◌, ℕ, map, length, ap, ◌∙◌, arith}
use borrow.Author.Tests.{tests}
use Rattle.std.proofs.lemmas.Iterator.Consumers.{YieldsList-from_filter}
use Rattle.std.specs.List.{range_with_len}
use Rattle.model.specs.Rows.{on, row_at, workable}
use Rattle.index.specs.Indexes.{those}
use Rattle.index.proofs.Gathered.{closed_more, drained, YieldsList-from_range_inclusive}
use Rattle.index.proofs.building.flags_by_row.Goals as goal

pub loop-row-preserved : goal.loop-row-preserved
unfolding those
loop-row-preserved g c =
    let rows = g.B.Book.rows c.args.book.now in
    let e : c.in_ok-close_with.ensures.0 ≡ those (on (row_at rows c.loop-row.row-counter)) 256 =
    drained c.in_ok-close_with.ensures.0 c.in_ok-close_with.ensures.1
    (YieldsList-from_filter _ (on (row_at rows c.loop-row.row-counter)) (YieldsList-from_range_inclusive _ 255 c.filter.ensures.source c.new-in-loop-row.ensures.start c.new-in-loop-row.ensures.end c.new-in-loop-row.ensures.exhausted) c.filter.ensures.closure (λ x r q k. search (rules, tests))) in
    closed_more (λ (k : ℕ). those (on (row_at rows k)) 256) c.loop-row.row-counter _ _ _ e c.loop-row.invariant c.in_ok-close_with.ensures.2

pub returns : goal.returns
returns g c =
    let rows = g.B.Book.rows c.args.book.now in
    let e : c.loop-row.row-counter ≡ length (workable rows) = omega (arith, c.workable_count-count.ensures) in
    c.loop-row.invariant.0 ∙ ap (λ n. map (λ k. those (on (row_at rows k)) 256) (range_with_len 0 n)) e
