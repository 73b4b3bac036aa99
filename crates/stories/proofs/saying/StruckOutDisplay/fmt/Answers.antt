use Rattle.std.proofs.Common.{◌≡◌, ◌+◌, Bool, true, rules, arith, refl, ap, ◌∙◌}
use Rattle.std.proofs.Output.{has_written_append, has_written_of_eq}
use Rattle.model.specs.View.{at}
use Rattle.stories.specs.Words.{struck_below}
use Rattle.stories.proofs.Wording.{struck_more}
use Rattle.stories.proofs.saying.StruckOutDisplay.fmt.Goals as goal

pub loop-flag-init : goal.loop-flag-init
unfolding struck_below
loop-flag-init g c = search rules

pub loop-flag-preserved : goal.loop-flag-preserved
loop-flag-preserved g c = λ p.
    let said = c.args.self.now in
    let so_far = c.loop-flag.invariant p in
    let ok : ◌≡◌ {A = Bool} true true = refl in
    let zero = c.in_ok-write_value.ensures so_far.plain ok in
    let one = c.in_ok-write_value-2.ensures zero.plain ok in
    has_written_of_eq _ _ _ _ _ (struck_more said.flags.names.now (at said.before.now) (at said.after.now) c.loop-flag.flag) (has_written_append _ _ _ _ _ _ so_far (has_written_append _ _ _ _ _ _ zero one))

pub returns-in_ok-write_value-2-clause-writes : goal.returns-in_ok-write_value-2-clause-writes
returns-in_ok-write_value-2-clause-writes g c = λ p _.
    let said = c.args.self.now in
    let so_far = c.loop-flag.invariant p in
    let ok : ◌≡◌ {A = Bool} true true = refl in
    let zero = c.in_ok-write_value.ensures so_far.plain ok in
    let one = c.in_ok-write_value-2.ensures zero.plain ok in
    let all : c.loop-flag.flag + 1 ≡ 256 = omega arith in
    has_written_of_eq _ _ _ _ _
    (struck_more said.flags.names.now (at said.before.now) (at said.after.now) c.loop-flag.flag ∙ ap (struck_below said.flags.names.now (at said.before.now) (at said.after.now)) all)
    (has_written_append _ _ _ _ _ _ so_far (has_written_append _ _ _ _ _ _ zero one))
