-- Each line may come, and adds its certificate.
use Rattle.std.proofs.Common.{◌≡◌, Some, refl, subst, sym}
use Rattle.rx_pairs.specs.declared.pair_cert.PairCert.{PairCert}
use Rattle.rx_log.specs.Places.{after}
use Rattle.rx_log.specs.declared.line.Line.TheVariants as line
use Rattle.rx_log.specs.declared.line_state.LineState.{LineState}
use Rattle.rx_log.specs.declared.line_state.LineState.TheVariants.{InPairs}
use Rattle.rx_check.specs.LineByLine.{IsRanked}
use Rattle.rx_check.specs.Replay.{place_after}
use Rattle.rx_check.specs.Whole.{with_pairs}
use Rattle.rx_check.proofs.WholeLines.{all_taken, leads_same, no_pairs, none_taken, one_taken, pair_leads, pairs_pushed_on}
use Rattle.rx_check.proofs.replayer.Replayer.take_pairs.Goals as goal

pub loop-pair-init : goal.loop-pair-init
loop-pair-init c = record {
  place = c.requires.ranked;
  roots = c.requires.roots;
  takes = none_taken with_pairs c.args.self.now c.args.rules.now no_pairs;
}

pub line-requires-clause-comes : goal.line-requires-clause-comes
line-requires-clause-comes c =
    let old = place_after c.loop-pair.self in (
      0,
      leads_same old old c.in_ok-next.next (line.Pair c.pair-item.result) 0 InPairs refl
          c.in_ok-next.ensures (pair_leads old c.pair-item.result c.loop-pair.invariant.place),
    )

pub loop-pair-preserved : goal.loop-pair-preserved
loop-pair-preserved c =
    let i = c.loop-pair.pair-index in
    let pair : PairCert = c.pair-item.result in
    let old = place_after c.loop-pair.self in
    let leads : after old (c.in_ok-next.next, 0) ≡ Some InPairs =
    leads_same old old c.in_ok-next.next (line.Pair pair) 0 InPairs refl c.in_ok-next.ensures
    (pair_leads old pair c.loop-pair.invariant.place) in
    record {
      place = subst (λ (at : LineState). IsRanked at) (sym c.in_ok-line.ensures.place) tt;
      roots = c.in_ok-line.ensures.roots;
      takes =
          one_taken with_pairs line.Pair c.args.self.now c.loop-pair.self c.line.new.self
          c.args.rules.now c.args.pairs.now i pair pair c.in_ok-next.next 0 InPairs pairs_pushed_on
          c.loop-pair-test.true c.pair-item.is c.in_ok-next.ensures leads
          c.loop-pair.invariant.takes c.in_ok-line.ensures.stands;
    }

pub returns-clause-takes : goal.returns-clause-takes
returns-clause-takes c =
    all_taken with_pairs c.args.self.now c.loop-pair.self c.args.rules.now c.args.pairs.now
    c.loop-pair.pair-index c.loop-pair-test.false c.loop-pair.invariant.takes
