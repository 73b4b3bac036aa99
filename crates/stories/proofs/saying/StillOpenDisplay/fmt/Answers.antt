use Rattle.std.proofs.Common.{◌≡◌, ◌+◌, ◌++◌, codes, if◌then◌else◌, Bool, true, rules, arith, refl, ap, ◌∙◌}
use Rattle.std.specs.Fmt.{HasWritten}
use Rattle.std.proofs.Output.{has_written_append, has_written_of_eq, has_written_to_eq}
use Rattle.model.specs.View.{at}
use Rattle.stories.specs.Words.{none_open, open_below}
use Rattle.stories.proofs.Wording.{none_more, open_more}
use Rattle.stories.proofs.saying.StillOpenDisplay.fmt.Goals as goal
use Rattle.stories.proofs.saying.StillOpenDisplay.fmt.Goals.{else-loop-flag-test, then-loop-flag-test+in_ok-write_name+else-flag-lt255}

pub loop-flag-init : goal.loop-flag-init
unfolding none_open open_below
loop-flag-init g c = search rules

pub loop-flag-preserved : goal.loop-flag-preserved
loop-flag-preserved g c =
    let said = c.args.self.now in
    let names = said.flags.names.now in
    let b = at said.b.now in (
      none_more names b c.loop-flag.flag _ _ c.loop-flag.invariant.0 c.is_open.ensures,
      λ p.
          let so_far = c.loop-flag.invariant.1 p in
          let ok : ◌≡◌ {A = Bool} true true = refl in
          has_written_of_eq _ _ _ _ _ (open_more names b c.loop-flag.flag _ c.loop-flag.invariant.0) (has_written_append _ _ _ _ _ _ so_far (c.in_ok-write_name.ensures so_far.plain ok)),
    )

pub returns-clause-writes : goal.returns-clause-writes
returns-clause-writes g c = λ p ok.
    let said = c.args.self.now in
    let names = said.flags.names.now in
    let b = at said.b.now in
    let yes : ◌≡◌ {A = Bool} true true = refl in
    let start = c.in_ok-write_str.ensures.writes p yes in
    let listed : HasWritten g.W.Write.write_str_gives c.write_str.new.self (open_below names b 256) c.loop-flag-test.f × (c.loop-flag-test.none ≡ none_open names b 256) =
    let so_far = c.loop-flag.invariant.1 start.plain in
    elim c.loop-flag-test.branch [
      | else-loop-flag-test w ↦ absurd (omega arith)
      | then-loop-flag-test+in_ok-write_name+else-flag-lt255 w ↦
          let all : c.loop-flag.flag + 1 ≡ 256 = omega arith in (
            has_written_to_eq _ _ _ _ _ w.f-is (has_written_of_eq _ _ _ _ _ (open_more names b c.loop-flag.flag _ c.loop-flag.invariant.0 ∙ ap (open_below names b) all) (has_written_append _ _ _ _ _ _ so_far (w.in_ok-write_name.ensures so_far.plain yes))),
            w.none-is ∙ none_more names b c.loop-flag.flag _ _ c.loop-flag.invariant.0 w.is_open.ensures ∙ ap (none_open names b) all,
          )
    ] in
    has_written_of_eq _ _ _ _ _
    (ap (λ t. codes "  Still open:" ++ (open_below names b 256 ++ t)) (c.after_names.ensures ∙ ap (λ n. if n then codes " nothing." else codes ".") listed.1))
    (has_written_append _ _ _ _ _ _ start (has_written_append _ _ _ _ _ _ listed.0 (c.write_str-2.ensures.writes listed.0.plain ok)))
