-- One pair more.
use Rattle.std.proofs.Common.{◌∙◌, ap, sym, ◌+◌, drop, ◌<◌, length, subst, List}
use Rattle.rx_pairs.specs.declared.pair.Pair.{Pair}
use Rattle.rx_rank.specs.Answers.{found}
use Rattle.rx_rank.specs.Choices.{hold_with, pairs_from}
use Rattle.rx_rank.proofs.Walks.{goes_on, next_with, put_same, stops}
use Rattle.rx_rank.proofs.filling.all_hold_with.Goals as goal

pub returns-then-not-is_shown-clause-found : goal.returns-then-not-is_shown-clause-found
returns-then-not-is_shown-clause-found g c =
    let values = c.args.values.now in
    let poly = c.args.poly.now in
    let f = c.args.symbol in
    let pairs = c.loop-known.pairs in
    let i = c.loop-known.known-index in
    let test = subst (λ (ps : List Pair). i < length ps) (sym c.loop-known.invariant.same)
    c.loop-known-test.true in
    let s = found c.in_ok-finding.finding in
    let turn = next_with values poly f pairs i c.known-item.result test s
    c.in_ok-finding.ensures.found in
    sym (stops s (hold_with values poly (pairs_from f (drop (i + 1) pairs)))
    (sym c.is_shown.ensures ∙ c.if-not-is_shown.true)) ∙ sym turn ∙
    c.loop-known.invariant.decides

pub loop-known-preserved : goal.loop-known-preserved
loop-known-preserved g c =
    let values = c.args.values.now in
    let poly = c.args.poly.now in
    let f = c.args.symbol in
    let pairs = c.loop-known.pairs in
    let i = c.loop-known.known-index in
    let test = subst (λ (ps : List Pair). i < length ps) (sym c.loop-known.invariant.same)
    c.loop-known-test.true in
    let d = c.known-item.result in
    let s = found c.in_ok-finding.finding in
    let put = put_same pairs i d c.holds_with.new.known c.holds_with.ensures.pair in
    let turn = next_with values poly f pairs i d test s
    c.in_ok-finding.ensures.found in
    record {
      solver = c.holds_with.ensures.solver;
      same = put ∙ c.loop-known.invariant.same;
      decides =
          ap (λ ps. hold_with values poly (pairs_from f (drop (i + 1) ps))) put
          ∙ sym (turn ∙ goes_on s (hold_with values poly (pairs_from f (drop (i + 1) pairs)))
          (sym c.is_shown.ensures ∙ c.if-not-is_shown.false))
          ∙ c.loop-known.invariant.decides;
    }
