-- Each line may come, and adds its certificates.
use Rattle.std.proofs.Common.{◌≡◌, ◌∙◌, Some, List, refl, subst, sym, get_or}
use Rattle.rx_cert.specs.declared.cert.Cert.{Cert}
use Rattle.rx_log.specs.Places.{after}
use Rattle.rx_log.specs.declared.line.Line.TheVariants as line
use Rattle.rx_log.specs.declared.line_state.LineState.{LineState}
use Rattle.rx_log.specs.declared.line_state.LineState.TheVariants.{InKeeps}
use Rattle.rx_check.specs.Replay.{place_after}
use Rattle.rx_check.specs.Whole.{IsInside, with_keeps}
use Rattle.rx_check.proofs.WholeLines.{all_taken, keep_leads, keeps_pushed_on, leads_same, no_keeps, none_taken, one_taken}
use Rattle.rx_check.proofs.replayer.Replayer.take_keeps.Goals as goal

pub loop-certs-init : goal.loop-certs-init
loop-certs-init c = record {
  place = c.requires.at;
  roots = c.requires.roots;
  takes = none_taken with_keeps c.args.self.now c.args.rules.now no_keeps;
}

pub line-requires-clause-comes : goal.line-requires-clause-comes
line-requires-clause-comes c =
    let old = place_after c.loop-certs.self in
    let certs : List Cert = c.as_slice.result.now in (
      0,
      leads_same old old c.in_ok-next.next (line.Keep certs) 0 InKeeps refl
          c.in_ok-next.ensures (keep_leads old certs c.loop-certs.invariant.place),
    )

pub loop-certs-preserved : goal.loop-certs-preserved
loop-certs-preserved c =
    let i = c.loop-certs.certs-index in
    let certs : List Cert = c.as_slice.result.now in
    let at : certs ≡ get_or c.args.keeps.now i c.certs-item.result =
    c.as_slice.ensures ∙ c.certs-item.is in
    let old = place_after c.loop-certs.self in
    let leads : after old (c.in_ok-next.next, 0) ≡ Some InKeeps =
    leads_same old old c.in_ok-next.next (line.Keep certs) 0 InKeeps refl c.in_ok-next.ensures
    (keep_leads old certs c.loop-certs.invariant.place) in
    record {
      place = subst (λ (at : LineState). IsInside at) (sym c.in_ok-line.ensures.place) tt;
      roots = c.in_ok-line.ensures.roots;
      takes =
          one_taken with_keeps line.Keep c.args.self.now c.loop-certs.self c.line.new.self
          c.args.rules.now c.args.keeps.now i certs c.certs-item.result c.in_ok-next.next 0 InKeeps
          keeps_pushed_on c.loop-certs-test.true at c.in_ok-next.ensures leads
          c.loop-certs.invariant.takes c.in_ok-line.ensures.stands;
    }

pub returns-clause-takes : goal.returns-clause-takes
returns-clause-takes c =
    all_taken with_keeps c.args.self.now c.loop-certs.self c.args.rules.now c.args.keeps.now
    c.loop-certs.certs-index c.loop-certs-test.false c.loop-certs.invariant.takes
