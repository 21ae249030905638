-- One more symbol.
use Rattle.std.proofs.Common.{◌≡◌, ◌∙◌, ◌+◌, ◌||◌, ap, drop, drop_of_length-le, get_or, sym, Some}
use Rattle.rx_solve.specs.Attempts.{Tried}
use Rattle.rx_poly.specs.declared.body.Body.{Body}
use Rattle.rx_rank.proofs.TryLaws.{noted_alone, then_some}
use Rattle.rx_rank.proofs.Walks.{next_from}
use Rattle.rx_anchors.specs.Values.{with_polynomial}
use Rattle.rx_rank.specs.Choices.{filled, first_serving, pairs_from}
use Rattle.rx_rank.specs.Tries.{made_then, noting}
use Rattle.rx_rank.proofs.filling.filled.Goals as goal

pub loop-symbol-preserved : goal.loop-symbol-preserved
loop-symbol-preserved g c =
    let a = c.args in
    let infos = a.infos.now in
    let pairs = a.pairs.now in
    let order = a.order.now in
    let i = c.loop-symbol.symbol-index in
    let f = get_or order i 0 in
    let values = c.loop-symbol.values.items in
    let before = c.loop-symbol.noted in
    let attempt = c.in_ok-attempt.attempt in
    let more = attempt.noted in
    let whole = filled infos pairs a.raised a.start.items order in
    let next = λ (q : Body). filled infos pairs a.raised (with_polynomial values f q)
    (drop (i + 1) order) in
    let opened : noting before (made_then attempt.made more next) ≡ whole =
    ap (λ (t : Tried Body). noting before (made_then t.made t.noted next))
    (c.in_ok-attempt.ensures.tried ∙ (λ j. first_serving (c.is_raised-more.ensures j)
    (c.arity_of-arity.ensures j)
    (c.as_slice.ensures.value j) (pairs_from f (c.loop-symbol.invariant.same j))))
    ∙ ap (λ fs. noting before (filled infos pairs a.raised values fs))
    (sym (next_from order i 0 c.loop-symbol-test.true))
    ∙ c.loop-symbol.invariant.decides in
    record {
      solver = c.first_serving.ensures.solver;
      same = c.first_serving.ensures.pairs ∙ c.loop-symbol.invariant.same;
      decides =
          (λ j. noting (before || more) (filled infos pairs a.raised (c.put_polynomial.ensures j)
          (drop (i + 1) order)))
          ∙ (λ j. noting (before || more) (filled infos pairs a.raised
          (with_polynomial values f (c.in-Some.poly-is j)) (drop (i + 1) order)))
          ∙ then_some before attempt.made more next whole opened c.in-Some.poly c.in-Some.is;
    }

pub returns-clause-tried : goal.returns-clause-tried
returns-clause-tried g c =
    let values = c.loop-symbol.values.items in
    let noted = c.loop-symbol.noted in
    sym (noted_alone (Some values) noted)
    ∙ ap (λ fs. noting noted (filled c.args.infos.now c.args.pairs.now c.args.raised values fs))
    (sym (drop_of_length-le c.args.order.now c.loop-symbol-test.false))
    ∙ c.loop-symbol.invariant.decides
