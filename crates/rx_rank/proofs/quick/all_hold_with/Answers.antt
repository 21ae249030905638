-- One pair more.
use Rattle.std.proofs.Common.{◌≡◌, ◌∙◌, ap, sym, subst, arith, ◌+◌, ◌<◌, ◌==◌, Some, cond, drop, drop_of_length-le, length, slice_get}
use Rattle.rx_poly.specs.declared.body.Body.{Body}
use Rattle.rx_cert.specs.Findings.{Yes}
use Rattle.rx_pairs.specs.declared.pair.Pair.{Pair}
use Rattle.rx_anchors.specs.Values.{polynomial_of}
use Rattle.rx_rank.proofs.NumberLaws.{next_of}
use Rattle.rx_rank.proofs.Walks.{goes_on, stops}
use Rattle.rx_rank.specs.Answers.{found}
use Rattle.rx_rank.specs.Choices.{hold_with, pairs_from, tested}
use Rattle.rx_rank.specs.Numbers.{Numbered, by_numbers}
use Rattle.rx_rank.specs.PairTests.{holds}
use Rattle.rx_rank.proofs.quick.all_hold_with.Goals as goal

pub returns-then-not-is_shown-clause-found : goal.returns-then-not-is_shown-clause-found
returns-then-not-is_shown-clause-found g c p is =
    let n = c.args.numbered.now in
    let values = by_numbers n.polys c.args.turn.now.values.now in
    let f = c.args.turn.now.symbol in
    let at = c.loop-at.at in
    let s = found c.in_ok-finding.finding in
    let within : at < length n.pairs = omega (arith, c.loop-at-test.true, c.count-at-end.ensures) in
    let told = subst (λ (m : Numbered). (pair : Pair) (q : Body) →
    slice_get m.pairs at ≡ Some pair → slice_get m.polys c.args.number ≡ Some q →
    s ≡ cond (pair.left.0 == f) (tested (holds pair) (Some q)
    (polynomial_of (by_numbers m.polys c.args.turn.now.values.now) pair.right.0)) Yes)
    c.loop-at.invariant.same c.in_ok-finding.ensures.found in
    let turn = next_of values p f n.pairs at s within (λ pair there. told pair p there is) in
    sym (stops s (hold_with values p (pairs_from f (drop (at + 1) n.pairs)))
    (sym c.is_shown.ensures ∙ c.if-not-is_shown.true))
    ∙ sym turn
    ∙ c.loop-at.invariant.decides p is

pub loop-at-preserved : goal.loop-at-preserved
loop-at-preserved g c =
    let n = c.args.numbered.now in
    let values = by_numbers n.polys c.args.turn.now.values.now in
    let f = c.args.turn.now.symbol in
    let at = c.loop-at.at in
    let s = found c.in_ok-finding.finding in
    let within : at < length n.pairs = omega (arith, c.loop-at-test.true, c.count-at-end.ensures) in
    let told = subst (λ (m : Numbered). (pair : Pair) (q : Body) →
    slice_get m.pairs at ≡ Some pair → slice_get m.polys c.args.number ≡ Some q →
    s ≡ cond (pair.left.0 == f) (tested (holds pair) (Some q)
    (polynomial_of (by_numbers m.polys c.args.turn.now.values.now) pair.right.0)) Yes)
    c.loop-at.invariant.same c.in_ok-finding.ensures.found in
    record {
      solver = c.holds_with.ensures.solver;
      same = c.holds_with.ensures.same ∙ c.loop-at.invariant.same;
      decides = λ p is.
          sym (next_of values p f n.pairs at s within (λ pair there. told pair p there is)
          ∙ goes_on s (hold_with values p (pairs_from f (drop (at + 1) n.pairs)))
          (sym c.is_shown.ensures ∙ c.if-not-is_shown.false))
          ∙ c.loop-at.invariant.decides p is;
    }

pub returns-clause-found : goal.returns-clause-found
returns-clause-found g c p is =
    let n = c.args.numbered.now in
    let values = by_numbers n.polys c.args.turn.now.values.now in
    let f = c.args.turn.now.symbol in
    ap (λ ps. hold_with values p (pairs_from f ps))
    (sym (drop_of_length-le n.pairs (omega (arith, c.loop-at-test.false, c.count-at-end.ensures))))
    ∙ c.loop-at.invariant.decides p is
