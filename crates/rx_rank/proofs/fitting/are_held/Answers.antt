-- One pair more.
use Rattle.std.proofs.Common.{◌∙◌, ap, sym, ◌+◌, drop, ◌<◌, length, subst, List}
use Rattle.rx_cert.specs.Findings.{and_also}
use Rattle.rx_pairs.specs.declared.pair.Pair.{Pair}
use Rattle.rx_rank.specs.Answers.{found}
use Rattle.rx_rank.specs.Choices.{all_hold}
use Rattle.rx_rank.proofs.Walks.{goes_on, next_hold, put_same, stops}
use Rattle.rx_rank.proofs.fitting.are_held.Goals as goal

pub returns-then-not-is_shown-clause-found : goal.returns-then-not-is_shown-clause-found
returns-then-not-is_shown-clause-found g c =
    let values = c.args.values.now in
    let pairs = c.loop-known.pairs in
    let i = c.loop-known.known-index in
    let test = subst (λ (ps : List Pair). i < length ps) (sym c.loop-known.invariant.same)
    c.loop-known-test.true in
    let s = found c.in_ok-finding.finding in
    let later = all_hold values (drop (i + 1) pairs) in
    sym (stops s later (sym c.is_shown.ensures ∙ c.if-not-is_shown.true))
    ∙ sym (next_hold values pairs i c.known-item.result test ∙
    ap (λ t. and_also t later) (sym c.in_ok-finding.ensures.found))
    ∙ c.loop-known.invariant.decides

pub loop-known-preserved : goal.loop-known-preserved
loop-known-preserved g c =
    let values = c.args.values.now in
    let pairs = c.loop-known.pairs in
    let i = c.loop-known.known-index in
    let test = subst (λ (ps : List Pair). i < length ps) (sym c.loop-known.invariant.same)
    c.loop-known-test.true in
    let d = c.known-item.result in
    let s = found c.in_ok-finding.finding in
    let later = all_hold values (drop (i + 1) pairs) in
    let put = put_same pairs i d c.is_held.new.known c.is_held.ensures.pair in
    record {
      solver = c.is_held.ensures.solver;
      same = put ∙ c.loop-known.invariant.same;
      decides =
          ap (λ ps. all_hold values (drop (i + 1) ps)) put
          ∙ sym (next_hold values pairs i d test
          ∙ ap (λ t. and_also t later) (sym c.in_ok-finding.ensures.found)
          ∙ goes_on s later (sym c.is_shown.ensures ∙ c.if-not-is_shown.false))
          ∙ c.loop-known.invariant.decides;
    }
