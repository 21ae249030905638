-- The ranks, the pairs, and the end.
use Rattle.std.proofs.Common.{subst, sym, List}
use Rattle.rx_poly.specs.declared.body.Body.{Body}
use Rattle.rx_log.specs.declared.line.Line.TheVariants as line
use Rattle.rx_log.specs.declared.line_state.LineState.TheVariants.{Finished}
use Rattle.rx_log.specs.declared.log.Log.{Log}
use Rattle.rx_check.specs.Replay.{place_after}
use Rattle.rx_check.specs.Whole.{HasWidths, Replays, front_of, with_ranks}
use Rattle.rx_check.proofs.Fronts.{rest_made}
use Rattle.rx_check.proofs.WholeLines.{end_leads, one_line}
use Rattle.rx_check.proofs.replayer.Replayer.take_rest.Goals as goal

pub take_ranks-requires-clause-widths : goal.take_ranks-requires-clause-widths
take_ranks-requires-clause-widths c =
    subst (λ (ranks : List (List Body)). HasWidths c.args.log.now.table.columns ranks)
    (sym c.as_slice-ranks.ensures) c.requires.widths

pub line-requires-clause-comes : goal.line-requires-clause-comes
line-requires-clause-comes c =
    (0, end_leads (place_after c.take_pairs.new.self) c.in_ok-take_pairs.ensures.ranked)

pub returns-clause-takes : goal.returns-clause-takes
returns-clause-takes c = λ target before.
    let log = c.args.log.now in
    let ranked = c.in_ok-take_ranks.ensures.takes target (front_of log) before in
    let paired = c.in_ok-take_pairs.ensures.takes target
    (with_ranks (front_of log) c.as_slice-ranks.result.now) ranked in
    subst (λ (l : Log). Replays c.line.new.self c.args.rules.now target l)
    (rest_made log c.as_slice-ranks.result.now c.as_slice.result.now c.as_slice-ranks.ensures
    c.as_slice.ensures)
    (one_line line.End 0 Finished paired
    (end_leads (place_after c.take_pairs.new.self) c.in_ok-take_pairs.ensures.ranked)
    (c.in_ok-line.ensures.stands target))
