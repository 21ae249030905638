-- Each line may come, and adds its domain.
use Rattle.std.proofs.Common.{◌≡◌, ◌+◌, Some, List, subst, sym}
use Rattle.rx_log.specs.Places.{after}
use Rattle.rx_log.specs.declared.line.Line.TheVariants as line
use Rattle.rx_log.specs.declared.line_state.LineState.{LineState}
use Rattle.rx_log.specs.declared.line_state.LineState.TheVariants.{InDomains}
use Rattle.rx_row.specs.declared.row.Row.{Row}
use Rattle.rx_check.specs.Replay.{place_after}
use Rattle.rx_check.specs.Whole.{IsInside, with_lists}
use Rattle.rx_check.proofs.WholeLines.{all_taken, domain_leads, leads_same, lists_pushed_on, no_lists, none_taken, one_taken}
use Rattle.rx_check.proofs.replayer.Replayer.take_domains.Goals as goal

pub loop-symbol-init : goal.loop-symbol-init
loop-symbol-init c = record {
  place = c.requires.place;
  roots = c.requires.roots;
  takes = none_taken with_lists c.args.self.now c.args.rules.now no_lists;
}

pub line-requires-clause-comes : goal.line-requires-clause-comes
line-requires-clause-comes c =
    let i = c.loop-symbol.symbol in
    let rows : List Row = c.index-lists-symbol.result in (
      i,
      leads_same (place_after c.loop-symbol.self) (InDomains i) c.in_ok-next.next
          (line.Domain rows) i (InDomains (i + 1)) c.loop-symbol.invariant.place
          c.in_ok-next.ensures (domain_leads i rows),
    )

pub loop-symbol-preserved : goal.loop-symbol-preserved
loop-symbol-preserved c =
    let i = c.loop-symbol.symbol in
    let rows : List Row = c.index-lists-symbol.result in
    let leads : after (place_after c.loop-symbol.self) (c.in_ok-next.next, i) ≡
    Some (InDomains (i + 1)) =
    leads_same (place_after c.loop-symbol.self) (InDomains i) c.in_ok-next.next
    (line.Domain rows) i (InDomains (i + 1)) c.loop-symbol.invariant.place c.in_ok-next.ensures
    (domain_leads i rows) in
    record {
      place = c.in_ok-line.ensures.place;
      roots = c.in_ok-line.ensures.roots;
      takes =
          one_taken with_lists line.Domain c.args.self.now c.loop-symbol.self c.line.new.self
          c.args.rules.now c.args.lists.now i rows rows
          c.in_ok-next.next i (InDomains (i + 1)) lists_pushed_on c.loop-symbol-test.true
          c.index-lists-symbol.is c.in_ok-next.ensures leads
          c.loop-symbol.invariant.takes c.in_ok-line.ensures.stands;
    }

pub returns-clause-takes : goal.returns-clause-takes
returns-clause-takes c =
    all_taken with_lists c.args.self.now c.loop-symbol.self c.args.rules.now c.args.lists.now
    c.loop-symbol.symbol c.loop-symbol-test.false c.loop-symbol.invariant.takes

pub returns-clause-at : goal.returns-clause-at
returns-clause-at c =
    subst (λ (at : LineState). IsInside at) (sym c.loop-symbol.invariant.place) tt
