-- Each line may come, and adds its rank.
use Rattle.std.proofs.Common.{◌≡◌, ◌∙◌, ◌+◌, Some, get_or, length, List, subst, sym}
use Rattle.std.proofs.lemmas.List.Elements.{All-get_or}
use Rattle.rx_poly.specs.declared.body.Body.{Body}
use Rattle.rx_log.specs.Places.{after}
use Rattle.rx_log.specs.declared.line.Line.TheVariants as line
use Rattle.rx_log.specs.declared.line_state.LineState.{LineState}
use Rattle.rx_log.specs.declared.line_state.LineState.TheVariants.{InRanks}
use Rattle.rx_check.specs.LineByLine.{IsRanked}
use Rattle.rx_check.specs.Replay.{place_after}
use Rattle.rx_check.specs.Whole.{with_ranks}
use Rattle.rx_check.proofs.WholeLines.{all_taken, leads_same, no_ranks_on, none_taken, one_taken, rank_leads, ranks_pushed_on}
use Rattle.rx_check.proofs.replayer.Replayer.take_ranks.Goals as goal

pub loop-symbol-init : goal.loop-symbol-init
loop-symbol-init c = record {
  place = c.requires.place;
  roots = c.requires.roots;
  takes = none_taken with_ranks c.args.self.now c.args.rules.now no_ranks_on;
}

pub line-requires-clause-comes : goal.line-requires-clause-comes
line-requires-clause-comes c =
    let i = c.loop-symbol.symbol in
    let rank : List Body = c.as_slice.result.now in
    let at : rank ≡ get_or c.args.ranks.now i c.index-ranks-symbol.result =
    c.as_slice.ensures ∙ c.index-ranks-symbol.is in
    let width : length rank ≡ c.args.columns =
    subst (λ (r : List Body). length r ≡ c.args.columns) (sym at)
    (All-get_or (λ (r : List Body). length r ≡ c.args.columns) c.args.ranks.now i
    c.index-ranks-symbol.result c.loop-symbol-test.true c.requires.widths) in (
      i,
      leads_same (place_after c.loop-symbol.self) (InRanks c.args.columns i)
          c.in_ok-next.next (line.Rank rank) i (InRanks c.args.columns (i + 1))
          c.loop-symbol.invariant.place c.in_ok-next.ensures
          (rank_leads c.args.columns i rank width),
    )

pub loop-symbol-preserved : goal.loop-symbol-preserved
loop-symbol-preserved c =
    let i = c.loop-symbol.symbol in
    let rank : List Body = c.as_slice.result.now in
    let at : rank ≡ get_or c.args.ranks.now i c.index-ranks-symbol.result =
    c.as_slice.ensures ∙ c.index-ranks-symbol.is in
    let width : length rank ≡ c.args.columns =
    subst (λ (r : List Body). length r ≡ c.args.columns) (sym at)
    (All-get_or (λ (r : List Body). length r ≡ c.args.columns) c.args.ranks.now i
    c.index-ranks-symbol.result c.loop-symbol-test.true c.requires.widths) in
    let leads : after (place_after c.loop-symbol.self) (c.in_ok-next.next, i) ≡
    Some (InRanks c.args.columns (i + 1)) =
    leads_same (place_after c.loop-symbol.self) (InRanks c.args.columns i) c.in_ok-next.next
    (line.Rank rank) i (InRanks c.args.columns (i + 1)) c.loop-symbol.invariant.place
    c.in_ok-next.ensures (rank_leads c.args.columns i rank width) in
    record {
      place = c.in_ok-line.ensures.place;
      roots = c.in_ok-line.ensures.roots;
      takes =
          one_taken with_ranks line.Rank c.args.self.now c.loop-symbol.self c.line.new.self
          c.args.rules.now c.args.ranks.now i rank c.index-ranks-symbol.result c.in_ok-next.next i
          (InRanks c.args.columns (i + 1)) ranks_pushed_on c.loop-symbol-test.true at
          c.in_ok-next.ensures leads c.loop-symbol.invariant.takes c.in_ok-line.ensures.stands;
    }

pub returns-clause-takes : goal.returns-clause-takes
returns-clause-takes c =
    all_taken with_ranks c.args.self.now c.loop-symbol.self c.args.rules.now c.args.ranks.now
    c.loop-symbol.symbol c.loop-symbol-test.false c.loop-symbol.invariant.takes

pub returns-clause-ranked : goal.returns-clause-ranked
returns-clause-ranked c =
    subst (λ (at : LineState). IsRanked at) (sym c.loop-symbol.invariant.place) tt
