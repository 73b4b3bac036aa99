use Rattle.std.proofs.Common.{◌≡◌, ◌+◌, length, [], ◌∷◌, ◌++◌, sym, ap, refl, ◌∙◌, arith, rules, tests}
use Rattle.std.proofs.lemmas.List.{length_push}
use Rattle.model.specs.View.{at}
use Rattle.choosers.specs.Choices.{highest}
use Rattle.choosers.proofs.Finding.{next_flag, all_flags, highest_with, highest_past}
use Rattle.choosers.proofs.ranked.Ranked.highest_open.Goals as goal

pub loop-flag-init : goal.loop-flag-init
unfolding highest
loop-flag-init c = refl

pub loop-flag-preserved-then-is_open : goal.loop-flag-preserved-then-is_open
loop-flag-preserved-then-is_open c =
    let b = at c.args.b.now in
    let ranks = c.args.self.now.ranks in
    let flag = c.in-Some.flag in
    let e = next_flag c.args.n 256 c.loop-flag.yielded _ c.loop-flag.yielded_by c.into_iter-flag-iterator.ensures.into_iter_gives refl c.flags_below.ensures c.map-flag-items.ensures.source c.map-flag-items.ensures.closure (λ x r q k. search (rules, tests)) _ _ flag c.in-Some.is c.next.ensures.steps in
    let more : flag + 1 ≡ length (c.loop-flag.yielded ++ flag ∷ []) = omega (arith, length_push c.loop-flag.yielded flag) in
    highest_with b ranks flag c.loop-flag.best c.better.result (c.loop-flag.invariant ∙ ap (highest ranks b) (sym e)) (sym c.is_open.ensures ∙ c.if-is_open.true) c.better.ensures
    ∙ ap (highest ranks b) more

pub loop-flag-preserved : goal.loop-flag-preserved
loop-flag-preserved c =
    let b = at c.args.b.now in
    let ranks = c.args.self.now.ranks in
    let flag = c.in-Some.flag in
    let e = next_flag c.args.n 256 c.loop-flag.yielded _ c.loop-flag.yielded_by c.into_iter-flag-iterator.ensures.into_iter_gives refl c.flags_below.ensures c.map-flag-items.ensures.source c.map-flag-items.ensures.closure (λ x r q k. search (rules, tests)) _ _ flag c.in-Some.is c.next.ensures.steps in
    let more : flag + 1 ≡ length (c.loop-flag.yielded ++ flag ∷ []) = omega (arith, length_push c.loop-flag.yielded flag) in
    highest_past b ranks flag c.loop-flag.best (c.loop-flag.invariant ∙ ap (highest ranks b) (sym e)) (sym c.is_open.ensures ∙ c.if-is_open.false)
    ∙ ap (highest ranks b) more

pub returns : goal.returns
returns c =
    c.loop-flag.invariant
    ∙ ap (highest c.args.self.now.ranks (at c.args.b.now)) (all_flags c.args.n 256 c.loop-flag.yielded _ c.loop-flag.yielded_by c.into_iter-flag-iterator.ensures.into_iter_gives refl c.flags_below.ensures c.map-flag-items.ensures.source c.map-flag-items.ensures.closure (λ x r q k. search (rules, tests)) _ _ c.in-None.is c.next.ensures.steps)
