-- One anchor more; where no candidate is left, nothing is given.
use Rattle.std.proofs.Common.{◌≡◌, ◌∙◌, ap, sym, refl, arith, ◌+◌, Some, drop, get_or, slice_get}
use Rattle.std.proofs.lemmas.Bool.Decides.{nat_tests}
use Rattle.std.proofs.lemmas.Option.{slice_get-get_or}
use Rattle.rx_anchors.proofs.ValueLaws.{no_more_choice}
use Rattle.rx_anchors.specs.Values.{polys_at, with_choice}
use Rattle.rx_term.proofs.Places.{from_place}
use Rattle.rx_rank.proofs.NumberLaws.{number_put}
use Rattle.rx_rank.proofs.Walks.{next_from}
use Rattle.rx_rank.specs.Numbers.{by_numbers}
use Rattle.rx_rank.proofs.quick.choice_numbers.Goals as goal

pub returns-in-None : goal.returns-in-None
returns-in-None c =
    sym (no_more_choice (by_numbers c.args.numbered.now.polys c.loop-at.values.items)
    (drop c.loop-at.at c.args.problem.now.anchors.now) c.args.choice.now c.loop-at.at
    c.in-None.ensures.lookup.3)
    ∙ c.loop-at.invariant

pub loop-at-preserved : goal.loop-at-preserved
loop-at-preserved c =
    let polys = c.args.numbered.now.polys in
    let anchors = c.args.problem.now.anchors.now in
    let choice = c.args.choice.now in
    let at = c.loop-at.at in
    let values = by_numbers polys c.loop-at.values.items in
    let f = get_or anchors at 0 in
    let r = c.in-Some.poly.now in
    let l = c.in-Some.ensures.lookup in
    let there : slice_get choice at ≡ Some r =
    slice_get-get_or choice at r (grind (arith, nat_tests, l.0)) ∙ ap Some (sym l.1) in
    let fs = drop (at + 1) anchors in
    let ps = polys_at (drop (at + 1) choice) in
    (λ j. with_choice (by_numbers polys (c.put_number.ensures j)) fs ps)
    ∙ ap (λ vs. with_choice vs fs ps)
    (number_put polys c.loop-at.values.items f c.in-Some-get.number.now r.now
    (c.if-not-is_number_of.ensures refl))
    ∙ (λ j. with_choice values (sym (next_from anchors at 0 c.loop-at-test.true) j)
    (polys_at (sym (from_place choice at r there) j)))
    ∙ c.loop-at.invariant
